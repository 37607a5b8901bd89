-- What the cells and the names of a page show: each the first that stands there.
use Rattle.std.specs.Prelude.{ℕ, if◌then◌else◌, List, [], ◌∷◌, Option, Some, None}
use Rattle.cell_addr.specs.declared.place.Place.{Place}
use Rattle.cell_addr.specs.Place.{same_place}
use Rattle.cell_addr.specs.Sheets.{same_name}
use Rattle.cell_value.specs.declared.scalar.Scalar.{Scalar}
use Rattle.cell_value.specs.declared.scalar.Scalar.TheVariants.{Empty}
use Rattle.formula_tree.specs.Relative.{relative}
use Rattle.formula_tree.specs.StandsFor.{at_home}
use Rattle.calc_terms.specs.World.{Named}
use Rattle.function_cases.specs.declared.page.Cell.{Cell}
use Rattle.function_cases.specs.declared.page.Name.{Name}

abbrev pub shown_in : List Cell → Place → Scalar
shown_in [] at = Empty
shown_in (cell ∷ rest) at = if same_place cell.at at then cell.value else shown_in rest at

abbrev pub named_in : List Name → List ℕ → Option Named
named_in [] word = None
named_in (name ∷ rest) word =
    if same_name name.word word then Some (record { value = name.value; tree = at_home name.home (relative name.tree.value) })
    else named_in rest word
