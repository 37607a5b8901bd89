use Rattle.marked_values.proofs.BooksInside.{books_stay_inside}
use Rattle.marked_values.proofs.laws.books_stay_inside.Goals as goal

pub returns : goal.returns
returns c = books_stay_inside
