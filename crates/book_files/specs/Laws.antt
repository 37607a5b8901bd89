-- What the sheet of a file has of the file's records and fields, and which fault of a file is answered. Source: this
-- project's own.
use Rattle.std.specs.Prelude.{◌≡◌, ◌⊎◌, ◌↔◌, ◌<◌, ◌≤◌, ◌+◌, ℕ, List, length, take, filter, Option, Some, option_and_then, Result, Ok, Err, IsTrue, IsUtf8, AllPairs, Contains, slice_get, ⊤}
use Rattle.std.specs.List.{HoldsAt}
use Rattle.csv.specs.Reading.{records, default_config, strip_bom}
use Rattle.cell_addr.specs.declared.place.TheConstants.{ROWS, COLS}
use Rattle.book_model.specs.Given.{GivenSheet}
use Rattle.book_model.specs.Refusals.{is_sheet_name}
use Rattle.book_model.specs.declared.given.BookCell.{BookCell}
use Rattle.book_model.specs.declared.limits.TheConstants.{MAX_CELLS, MAX_TEXT}
use Rattle.book_files.specs.Books.{book_sheet_of, file_cells, is_filled, sheet_name_of}
use Rattle.book_files.specs.declared.fault.BookFault.{BookFault}
use Rattle.book_files.specs.declared.fault.BookFault.TheVariants.{NotUtf8, BadSheetName, Rows, Columns, FieldLength, Cells, NoMemory}

-- the records of a file, each the list of its fields
abbrev pub records_in : List ℕ → List (List (List ℕ))
records_in bytes = records default_config (strip_bom bytes)

-- the field of these numbers, counted from 0, where it is there
abbrev pub field_in : List (List (List ℕ)) → ℕ → ℕ → Option (List ℕ)
field_in rows row col = option_and_then (λ fields. slice_get fields col) (slice_get rows row)

-- the record of the cell's row has the cell's text as the field of its column
abbrev pub IsField : List (List (List ℕ)) → BookCell → Type 0
IsField rows c = field_in rows c.row c.col ≡ Some c.text

-- reading order: record by record, and in a record field by field
abbrev pub ReadsBefore : BookCell → BookCell → Type 0
ReadsBefore c e = (c.row < e.row) ⊎ ((c.row ≡ e.row) × (c.col < e.col))

-- these are exactly the fields that pass a test, in reading order
abbrev pub AreFields : (BookCell → Type 0) → List (List (List ℕ)) → List BookCell → Type 0
AreFields Passes rows cells = ((c : BookCell) → Contains cells c ↔ (IsField rows c × Passes c)) × AllPairs ReadsBefore cells

-- the cells of a file's sheet are its fields that have a byte, each in the row of its record and the column of its number
abbrev pub SheetsAreTheirFields : Type 0
SheetsAreTheirFields = (name bytes : List ℕ) (filled : ℕ) (sheet : GivenSheet) → book_sheet_of name bytes filled ≡ Ok sheet
    → AreFields (λ c. 0 < length c.text) (records_in bytes) sheet.cells

-- what is wrong with a field, where so many cells are filled before it: the first of these that holds
abbrev pub IsWrong : ℕ → BookCell → BookFault → Type 0
IsWrong filled c Rows = ROWS ≤ c.row
IsWrong filled c Columns = (c.row < ROWS) × (COLS ≤ c.col)
IsWrong filled c FieldLength = (c.row < ROWS) × (c.col < COLS) × (MAX_TEXT < length c.text)
IsWrong filled c Cells = (c.row < ROWS) × (c.col < COLS) × (length c.text ≤ MAX_TEXT) × (0 < length c.text) × (MAX_CELLS ≤ filled)
IsWrong filled c _ = ⊥

-- this is wrong with field number k of these, before all of which so many cells are filled
abbrev pub IsWrongAt : ℕ → List BookCell → ℕ → BookFault → Type 0
IsWrongAt filled fields k e = HoldsAt (λ c. IsWrong (filled + length (filter is_filled (take k fields))) c e) fields k

-- this is wrong with one of the fields, and nothing with those before it
abbrev pub IsFirstWrong : ℕ → List BookCell → BookFault → Type 0
IsFirstWrong filled fields e = (k : ℕ) × (k < length fields) × IsWrongAt filled fields k e × ((j : ℕ) (f : BookFault) → j < k → ¬ (IsWrongAt filled fields j f))

-- why a file is no sheet: it is no text, its name gives no sheet's, or a field is wrong
abbrev pub IsFaultOf : List ℕ → List ℕ → ℕ → BookFault → Type 0
IsFaultOf name bytes filled NotUtf8 = ¬ (IsUtf8 bytes)
IsFaultOf name bytes filled BadSheetName = IsUtf8 bytes × ¬ (IsTrue (is_sheet_name (sheet_name_of name)))
IsFaultOf name bytes filled NoMemory = ⊥
IsFaultOf name bytes filled e = IsUtf8 bytes × IsTrue (is_sheet_name (sheet_name_of name)) × IsFirstWrong filled (file_cells bytes) e

-- a fault is answered exactly where it is one, and it is the first: all fields of a file are tested in reading order
abbrev pub FaultsAreTheFirst : Type 0
FaultsAreTheFirst = ((bytes : List ℕ) → AreFields (λ c. ⊤) (records_in bytes) (file_cells bytes))
    × ((name bytes : List ℕ) (filled : ℕ) (e : BookFault) → (book_sheet_of name bytes filled ≡ Err e) ↔ IsFaultOf name bytes filled e)
