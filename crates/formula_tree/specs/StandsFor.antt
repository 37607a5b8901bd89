-- What a shared tree stands for at a home. Source: this project's own.
use Rattle.std.specs.Prelude.{◌≡◌}
use Rattle.std.specs.declared.alloc.Global.{Global}
use Rattle.std.specs.declared.rc.Rc.{Rc}
use Rattle.cell_addr.specs.Place.{IsInside}
use Rattle.formula_tree.specs.Term.{Term, each_corner, EachCorner}
use Rattle.formula_tree.specs.Reference.{base_of, corner_at, ref_from}
use Rattle.formula_tree.specs.Relative.{relative}
use Rattle.formula_tree.specs.declared.reference.Corner.{Corner}
use Rattle.formula_tree.specs.declared.reference.Ref.{Ref}
use Rattle.formula_tree.specs.declared.reference.Home.{Home}
use Rattle.formula_tree.specs.declared.node.Node.{Node}

-- a relative tree with every reference as the place that it names in a formula at the home
abbrev pub at_home : Home → Term Ref → Term Corner
at_home home = each_corner (corner_at (base_of home))

-- a tree with every place as it is seen from the home
abbrev pub from_home : Home → Term Corner → Term Ref
from_home home = each_corner (ref_from (base_of home))

-- the tree of a formula at this home is the term
abbrev pub StandsFor : Rc Node Global → Home → Term Corner → Type 0
StandsFor tree home t = at_home home (relative tree.value) ≡ t

-- each place of the tree is within the limits of a sheet
abbrev pub ArePlacesInside : Term Corner → Type 0
ArePlacesInside = EachCorner (λ c. IsInside c.at)
