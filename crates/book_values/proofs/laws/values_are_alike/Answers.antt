use Rattle.book_values.proofs.SameTrees.{values_alike}
use Rattle.book_values.proofs.laws.values_are_alike.Goals as goal

pub returns : goal.returns
returns c = values_alike
