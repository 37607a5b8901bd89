-- The session that begins with given sheets and texts. Source: this project's own.
use Rattle.std.specs.Prelude.{◌≢◌, ◌⊎◌, ◌<◌, ◌≤◌, ℕ, ℤ, ◌+◌, false, List, [], ◌∷◌, ◌++◌, length, Option, None, map, option_map, All, AllPairs, IsTrue}
use Rattle.std.specs.List.{filter_map}
use Rattle.std.specs.FinMap as finmap
use Rattle.cell_addr.specs.declared.place.Place.{Place}
use Rattle.cell_addr.specs.declared.place.TheConstants.{ROWS, COLS}
use Rattle.cell_addr.specs.Text.{folded}
use Rattle.book_values.specs.Book.{Content}
use Rattle.custom_fn.specs.declared.rule.Rule.{Rule}
use Rattle.book_model.specs.Clipboard.{nothing}
use Rattle.book_model.specs.Workbook.{Workbook, State}
use Rattle.book_model.specs.Content.{content_given, content_of}
use Rattle.book_model.specs.Refusals.{is_sheet_name}
use Rattle.book_model.specs.declared.given.BookCell.{BookCell}
use Rattle.book_model.specs.declared.given.BookSheet.{BookSheet}
use Rattle.book_model.specs.declared.limits.TheConstants.{MAX_CELLS, MAX_SHEETS, MAX_TEXT}

-- a sheet as it is given: its name, and texts for cells of it
pub record GivenSheet : Type 0 where
  pub name : List ℕ
  pub cells : List BookCell

abbrev pub given_sheet : BookSheet → GivenSheet
given_sheet s = record { name = s.name; cells = s.cells.list.items }

abbrev pub given_sheets : List BookSheet → List GivenSheet
given_sheets books = map given_sheet books

-- the sheets by number and name, numbered in order from here on
abbrev pub numbered : ℕ → List GivenSheet → List (ℕ × List ℕ)
numbered n [] = []
numbered n (s ∷ ss) = (n, s.name) ∷ numbered (n + 1) ss

-- the place of a cell on a sheet
abbrev pub place_on : ℕ → BookCell → Place
place_on sheet c = record { sheet = sheet; row = c.row; col = c.col }

-- what a text gives to a cell, where it gives something
abbrev pub given_entry : List (ℕ × List ℕ) → ℕ → BookCell → Option (Place × Content)
given_entry sheets sheet c = option_map (λ x. (place_on sheet c, x)) (content_given sheets sheet (content_of c.text))

-- what the texts give to the cells of sheets numbered from here on, where formulas may name each sheet of the list
abbrev pub given_entries : List (ℕ × List ℕ) → ℕ → List GivenSheet → List (Place × Content)
given_entries sheets n [] = []
given_entries sheets n (s ∷ ss) = filter_map (given_entry sheets n) s.cells ++ given_entries sheets (n + 1) ss

-- the workbook of the sheets, which has no names yet
abbrev pub workbook_given : List GivenSheet → Workbook
workbook_given books = record {
  sheets = numbered 0 books;
  cells = finmap.from_entries (given_entries (numbered 0 books) 0 books);
  names = finmap.empty;
}

-- the session that begins with the sheets, in which so many steps can be undone, with these custom functions and on this
-- day
abbrev pub session_given : ℕ → List (List ℕ × Rule) → ℤ → List GivenSheet → State
session_given limit customs today books = record {
  book = workbook_given books;
  undo = [];
  redo = [];
  batch = None;
  clip = nothing;
  suspended = false;
  next_sheet = length books;
  limit = limit;
  customs = customs;
  today = today;
}

-- the cell is inside, and its text within the limit
abbrev pub IsGivenCell : BookCell → Type 0
IsGivenCell c = (c.row < ROWS) × (c.col < COLS) × (length c.text ≤ MAX_TEXT)

-- two cells stand apart
abbrev pub StandApart : BookCell → BookCell → Type 0
StandApart c e = (c.row ≢ e.row) ⊎ (c.col ≢ e.col)

-- a sheet with a valid name, and its cells at distinct places
abbrev pub IsGivenSheet : GivenSheet → Type 0
IsGivenSheet s = IsTrue (is_sheet_name s.name) × All IsGivenCell s.cells × AllPairs StandApart s.cells

-- sheets that a session can begin with
abbrev pub CanBegin : List GivenSheet → Type 0
CanBegin books = All IsGivenSheet books
    × AllPairs (λ s t. folded s.name ≢ folded t.name) books
    × (length books ≤ MAX_SHEETS)
    × (finmap.len (workbook_given books).cells ≤ MAX_CELLS)
