-- A formula in a cell, and one under a name. Source: this project's own.
use Rattle.std.specs.Prelude.{⊤, ℕ, Option, None, Some}
use Rattle.std.specs.declared.alloc.Global.{Global}
use Rattle.std.specs.declared.rc.Rc.{Rc}
use Rattle.cell_addr.specs.Place.{IsInside}
use Rattle.cell_addr.specs.declared.place.Place.{Place}
use Rattle.formula_tree.specs.Proper.{IsProper}
use Rattle.formula_tree.specs.Relative.{relative}
use Rattle.formula_tree.specs.StandsFor.{at_home}
use Rattle.formula_tree.specs.Term.{Term}
use Rattle.formula_tree.specs.declared.node.Node.{Node}
use Rattle.formula_tree.specs.declared.reference.Corner.{Corner}
use Rattle.formula_tree.specs.declared.reference.Home.TheVariants as homes
use Rattle.book_values.specs.Workbook.{scope_sheet}

-- the tree of a formula in a cell, each place as it is named there
abbrev pub tree_at : Place → Rc Node Global → Term Corner
tree_at at tree = at_home (homes.Cell at) (relative tree.value)

-- the tree of a name in a scope, each place as it is named at the name's home
abbrev pub tree_in_scope : Option ℕ → Rc Node Global → Term Corner
tree_in_scope scope tree = at_home (homes.Name (scope_sheet scope)) (relative tree.value)

-- a formula in a cell within the limits of a sheet, and its tree proper
abbrev pub IsFormula : Place → Term Corner → Type 0
IsFormula at t = IsInside at × IsProper t

-- a tree of a name, if there is one, is proper
abbrev pub IsProperIn : Option ℕ → Option (Rc Node Global) → Type 0
IsProperIn scope None = ⊤
IsProperIn scope (Some tree) = IsProper (tree_in_scope scope tree)
