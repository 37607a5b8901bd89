-- References of a copied formula, as they are seen from where it is pasted.
use Rattle.std.specs.Prelude.{ℕ, List, Option}
use Rattle.cell_addr.specs.declared.axis.Axis.{Axis}
use Rattle.formula_tree.specs.Reference.{IsHomeInside, base_of, corner_at}
use Rattle.formula_tree.specs.StandsFor.{from_home}
use Rattle.formula_tree.specs.Term.{Term}
use Rattle.formula_tree.specs.declared.reference.Home.{Home}
use Rattle.formula_tree.specs.declared.reference.Ref.{Ref}
use Rattle.tree_rewrite.specs.Pasted.{cell_pasted, area_pasted}

-- both homes lie within the limits of a sheet
abbrev pub AreHomesInside : Home → Home → Type 0
AreHomesInside from to = IsHomeInside from × IsHomeInside to

-- a reference, and a block or a whole range
abbrev pub cell_moved : List (ℕ × List ℕ) → Home → Home → Ref → Term Ref
cell_moved sheets from to r = from_home to (cell_pasted sheets (base_of from) (base_of to) (corner_at (base_of from) r))

abbrev pub area_moved : List (ℕ × List ℕ) → Home → Home → Option Axis → Ref → Ref → Term Ref
area_moved sheets from to lines r q = from_home to (area_pasted sheets (base_of from) (base_of to) lines (corner_at (base_of from) r) (corner_at (base_of from) q))
