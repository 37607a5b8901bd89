use Rattle.formula_tree.proofs.WholeCorners.{wholes-are_their_corners}
use Rattle.formula_tree.proofs.laws.wholes_are_their_corners.Goals as goal

pub returns : goal.returns
returns c = wholes-are_their_corners
