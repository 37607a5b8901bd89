-- A workbook, and the state of a session that works on it. Source: this project's own.
use Rattle.std.specs.Prelude.{ℕ, ℤ, ◌==◌, Bool, true, List, [], ◌∷◌, Option, Some, None, is_some}
use Rattle.std.specs.FinMap as map
use Rattle.std.specs.List.{list_any}
use Rattle.book_values.specs.Book.{Book as Contents}
use Rattle.custom_fn.specs.declared.rule.Rule.{Rule}
use Rattle.book_values.specs.Names.{Key}
use Rattle.book_model.specs.Clipboard.{Clipboard}
use Rattle.book_model.specs.Names.{NameMap}

-- a workbook: its sheets by number and name, in order, what its filled cells hold, and its named expressions
pub record Workbook : Type 0 where
  pub sheets : List (ℕ × List ℕ)
  pub cells : Contents
  pub names : NameMap

-- an open batch of changes: the workbook at its start, and whether a change came since
pub record Batch : Type 0 where
  pub start : Workbook
  pub changed : Bool

pub record State : Type 0 where
  pub book : Workbook
  -- the workbooks from before the steps that can be undone, and from after those that can be redone, the next one first
  pub undo : List Workbook
  pub redo : List Workbook
  pub batch : Option Batch
  -- what was copied or cut
  pub clip : Clipboard
  -- whether the computation of values is suspended
  pub suspended : Bool
  -- the number that the next new sheet gets
  pub next_sheet : ℕ
  -- how many steps can be undone
  pub limit : ℕ
  -- the names and rules of the custom functions, and the serial number of today
  pub customs : List (List ℕ × Rule)
  pub today : ℤ

-- the book has a sheet of this number
abbrev pub has_sheet : Workbook → ℕ → Bool
has_sheet b sheet = list_any (λ s. s.0 == sheet) b.sheets

-- the book has such a scope: the whole workbook, or one of its sheets
abbrev pub has_scope : Workbook → Option ℕ → Bool
has_scope b None = true
has_scope b (Some sheet) = has_sheet b sheet

-- the book has a name of this scope and word
abbrev pub has_name : Workbook → Key → Bool
has_name b key = is_some (map.get b.names key)

-- the first sheet of the list
abbrev pub first_sheet : Workbook → Option ℕ
first_sheet b = first_of b.sheets where
  first_of : List (ℕ × List ℕ) → Option ℕ
  first_of [] = None
  first_of (sheet ∷ rest) = Some sheet.0
