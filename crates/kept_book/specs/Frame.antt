-- The frame of a workbook at one position of its line: cells and names with ids in place of formulas. What it shows
-- there follows from the standings of the formulas. Source: this project's own.
use Rattle.std.specs.Prelude.{◌≡◌, ◌≢◌, ℕ, ◌<◌, List, length, Option, Some, None, option_map, option_and_then, slice_get}
use Rattle.std.specs.List.{filter_map}
use Rattle.std.specs.FinMap as fin
use Rattle.cell_addr.specs.declared.place.TheConstants.{NO_SHEET}
use Rattle.cell_value.specs.declared.fault.FaultKind.TheVariants as faults
use Rattle.formula_tree.specs.Term.{Term, fault}
use Rattle.formula_tree.specs.declared.reference.Corner.{Corner}
use Rattle.formula_tree.specs.declared.reference.Home.{Home}
use Rattle.formula_tree.specs.declared.reference.Home.TheVariants as homes
use Rattle.grid_store.specs.declared.cell.Cell.{Cell}
use Rattle.lazy_store.specs.Standing.{Standing}
use Rattle.name_table.specs.Scopes as table
use Rattle.name_table.specs.declared.key.NameKey.{NameKey}
use Rattle.shift_core.specs.Maps.{PlaceMap}
use Rattle.shift_core.specs.declared.shift.Shift.{Shift}
use Rattle.book_values.specs.Names.{Key}
use Rattle.book_values.specs.Workbook.{scope_sheet}
use Rattle.book_model.specs.Names.{NameMap}
use Rattle.book_model.specs.Workbook.{Workbook}
use Rattle.kept_book.specs.Numbered.{Numbered, Stood}
use Rattle.kept_book.specs.Stored.{AllStand, Stored, book_of}

-- the standing of the formula under an id at a position of the line
abbrev pub At : Type 0
At = ℕ → ℕ → Option Standing

-- the operation that leads from a position to the next one
abbrev pub Line : Type 0
Line = ℕ → Option Shift

-- the words of names, in small letters, each under its number
abbrev pub Words : Type 0
Words = List (List ℕ)

-- a position, the cells and the names there, formulas by their ids, and the sheets by number and name
pub record Frame : Type 0 where
  pub position : ℕ
  pub cells : PlaceMap Cell
  pub sheets : List (ℕ × List ℕ)
  pub names : table.NameMap

-- a formula of a cell, with its place; one of a name has none
abbrev pub stood_at : Home → Term Corner → Option Stood
stood_at (homes.Cell p) t = Some (p, t)
stood_at (homes.Name sheet) t = None

abbrev pub stood_of : Standing → Option Stood
stood_of x = stood_at x.home x.tree

-- the formulas of cells at a position
abbrev pub numbered_at : At → ℕ → Numbered
numbered_at at k id = option_and_then stood_of (at id k)

-- the tree of a standing; each name of a workbook has one
abbrev pub tree_named : Option Standing → Term Corner
tree_named None = fault faults.Ref
tree_named (Some x) = x.tree

-- the trees of all formulas at a position
abbrev pub named_at : At → ℕ → ℕ → Term Corner
named_at at k id = tree_named (at id k)

-- a name by its word in place of the word's number, with its tree in place of the id
abbrev pub name_seen : Words → (ℕ → Term Corner) → NameKey × ℕ → Option (Key × Term Corner)
name_seen words trees e = option_map (λ w. (record { scope = e.0.scope; word = w }, trees e.1)) (slice_get words e.0.word)

abbrev pub names_seen : Words → (ℕ → Term Corner) → table.NameMap → NameMap
names_seen words trees names = fin.from_entries (filter_map (name_seen words trees) (fin.entries names))

-- the workbook of a frame, as it is kept and as it shows
abbrev pub stored_at : At → Words → Frame → Stored
stored_at at words f = record { stands = numbered_at at f.position; cells = f.cells; sheets = f.sheets; names = names_seen words (named_at at f.position) f.names }

abbrev pub book_at : At → Words → Frame → Workbook
book_at at words f = book_of (stored_at at words f)

-- where the formula under the id stands at the position
abbrev pub home_at : At → ℕ → ℕ → Option Home
home_at at k id = option_map (λ x. x.home) (at id k)

-- a name's word is known, its scope isn't the number of no sheet, and its formula stands at the home of its scope
pub record IsNamed (at : At) (words : Words) (k : ℕ) (key : NameKey) (id : ℕ) : Type 0 where
  pub known : key.word < length words
  pub scoped : key.scope ≢ Some NO_SHEET
  pub home : home_at at k id ≡ Some (homes.Name (scope_sheet key.scope))

-- the formulas of a frame stand at their cells and names
pub record Stands (at : At) (words : Words) (f : Frame) : Type 0 where
  pub cells : AllStand (numbered_at at f.position) f.cells
  pub names : (key : NameKey) (id : ℕ) → fin.get f.names key ≡ Some id → IsNamed at words f.position key id
