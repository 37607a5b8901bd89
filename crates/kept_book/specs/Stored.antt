-- A workbook as it is kept: formulas under numbers, and the cells that name them. Source: this project's own.
use Rattle.std.specs.Prelude.{◌≡◌, ℕ, List, map, Option, Some, None, option_map}
use Rattle.std.specs.FinMap as fin
use Rattle.cell_addr.specs.declared.place.Place.{Place}
use Rattle.cell_value.specs.declared.fault.FaultKind.TheVariants as faults
use Rattle.book_values.specs.Book.{Book as Contents, Content, number, truth, text, formula, unreadable}
use Rattle.formula_tree.specs.Term.{Term, fault}
use Rattle.formula_tree.specs.declared.reference.Corner.{Corner}
use Rattle.grid_store.specs.declared.cell.Cell.{Cell}
use Rattle.grid_store.specs.declared.cell.Cell.TheVariants as cell
use Rattle.shift_core.specs.Maps.{PlaceMap}
use Rattle.book_model.specs.Names.{NameMap}
use Rattle.book_model.specs.Workbook.{Workbook}
use Rattle.kept_book.specs.Numbered.{Numbered, Stood}

-- the tree of a formula that stands under a number; in a workbook whose formulas stand in their cells there is one
abbrev pub tree_of : Option Stood → Term Corner
tree_of None = fault faults.Ref
tree_of (Some f) = f.1

-- what a kept cell holds
abbrev pub content_of : Numbered → Cell → Content
content_of stands (cell.Number m) = number m
content_of stands (cell.Truth b) = truth b
content_of stands (cell.Text w) = text w
content_of stands (cell.Formula n) = formula (tree_of (stands n))
content_of stands (cell.Broken w) = unreadable w

-- the contents of kept cells, where they stand
abbrev pub contents_of : Numbered → PlaceMap Cell → Contents
contents_of stands cells = fin.from_entries (map (λ e. (e.0, content_of stands e.1)) (fin.entries cells))

-- a workbook as it is kept: formulas under numbers, the cells that name them, the sheets, and the named expressions
pub record Stored : Type 0 where
  pub stands : Numbered
  pub cells : PlaceMap Cell
  pub sheets : List (ℕ × List ℕ)
  pub names : NameMap

-- the workbook that is kept so
abbrev pub book_of : Stored → Workbook
book_of k = record { sheets = k.sheets; cells = contents_of k.stands k.cells; names = k.names }

-- the number is that of a formula at the place
abbrev pub StandsAt : Numbered → ℕ → Place → Type 0
StandsAt stands n p = option_map (λ f. f.0) (stands n) ≡ Some p

-- each formula's number is that of a formula at its cell
abbrev pub AllStand : Numbered → PlaceMap Cell → Type 0
AllStand stands cells = (p : Place) (n : ℕ) → fin.get cells p ≡ Some (cell.Formula n) → StandsAt stands n p

-- the formulas of a kept workbook stand in their cells
abbrev pub Stand : Stored → Type 0
Stand k = AllStand k.stands k.cells
