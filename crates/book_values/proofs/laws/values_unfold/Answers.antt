use Rattle.book_values.proofs.Networks.{values_unfold}
use Rattle.book_values.proofs.laws.values_unfold.Goals as goal

pub returns : goal.returns
returns c = values_unfold
