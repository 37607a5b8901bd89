use Rattle.book_model.proofs.GivenTexts.{number_said, text_said, truth_said}
use Rattle.book_model.proofs.laws.given_texts_say_it.Goals as goal

pub returns : goal.returns
returns c = ((λ m inside. number_said m inside), (λ b. truth_said b), (λ w. text_said w))
