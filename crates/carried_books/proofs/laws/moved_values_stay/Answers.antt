use Rattle.carried_books.proofs.Moved.{moved_values_stay}
use Rattle.carried_books.proofs.laws.moved_values_stay.Goals as goal

pub returns : goal.returns
returns c = moved_values_stay
