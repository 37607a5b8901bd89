use Rattle.command_words.proofs.BookMeanings.{dash_behind, plain_behind, plain_words}
use Rattle.command_words.proofs.laws.words_are_books.Goals as goal

pub returns : goal.returns
returns c = λ front back plain. (plain_words front plain, plain_behind front back plain, dash_behind front back plain)
