-- Whole ranges between lines within the limits come back from how they are seen from a home. Serves the reader.
use Rattle.std.proofs.Common.{◌≡◌, ◌∙◌, ap, arith, ℕ, ◌<◌, Bool}
use Rattle.cell_addr.specs.declared.axis.Axis.{Axis}
use Rattle.cell_addr.specs.declared.axis.Axis.TheVariants.{Rows, Cols}
use Rattle.cell_addr.specs.declared.whole.Whole.{Whole}
use Rattle.cell_addr.specs.Axis.{limit_of}
use Rattle.formula_tree.specs.Relative.{relative}
use Rattle.formula_tree.specs.StandsFor.{ArePlacesInside, at_home, from_home}
use Rattle.formula_tree.specs.Whole.{whole_term}
use Rattle.formula_tree.specs.declared.node.Node.{Node}
use Rattle.formula_tree.specs.declared.reference.Home.{Home}
use Rattle.formula_tree.proofs.SeenFromHome.{seen-back}

places-along : (axis : Axis) (sheet m n : ℕ) (f g : Bool) → m < limit_of axis → n < limit_of axis → ArePlacesInside (whole_term (record { sheet = sheet; axis = axis; first = m; last = n }) f g)
places-along Rows sheet m n f g i j = ((i, omega arith), (j, omega arith))
places-along Cols sheet m n f g i j = ((omega arith, i), (omega arith, j))

pub whole-places : (w : Whole) (f g : Bool) → w.first < limit_of w.axis → w.last < limit_of w.axis → ArePlacesInside (whole_term w f g)
whole-places w f g i j = places-along w.axis w.sheet w.first w.last f g i j

-- a node that is a whole range as seen from the home stands for it there
pub whole-there : (home : Home) (node : Node) (w : Whole) (f g : Bool) → w.first < limit_of w.axis → w.last < limit_of w.axis → relative node ≡ from_home home (whole_term w f g)
    → at_home home (relative node) ≡ whole_term w f g
whole-there home node w f g i j e = ap (at_home home) e ∙ seen-back home (whole_term w f g) (whole-places w f g i j)
