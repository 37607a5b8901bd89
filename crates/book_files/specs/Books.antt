-- The sheet that a file of CSV is, or why it is none. Source: this project's own.
use Rattle.std.specs.Prelude.{◌≡◌, ◌+◌, ◌-◌, ◌==◌, ◌&&◌, if◌then◌else◌, not, nat_lt, nat_le, nat_eq, ℕ, Bool, List, [], ◌∷◌, ◌++◌, length, take, filter, Option, Some, None, Result, Ok, Err, codes, ⊤}
use Rattle.std.specs.List.{list_any, ends_with}
use Rattle.std.specs.Str.{is_utf8}
use Rattle.csv.specs.Reading.{records, default_config, strip_bom}
use Rattle.cell_addr.specs.declared.place.TheConstants.{ROWS, COLS}
use Rattle.book_model.specs.Given.{GivenSheet, given_sheet}
use Rattle.book_model.specs.Refusals.{is_sheet_name}
use Rattle.book_model.specs.declared.given.BookCell.{BookCell}
use Rattle.book_model.specs.declared.given.BookSheet.{BookSheet}
use Rattle.book_model.specs.declared.limits.TheConstants.{MAX_CELLS, MAX_TEXT}
use Rattle.book_files.specs.declared.fault.BookFault.{BookFault}
use Rattle.book_files.specs.declared.fault.BookFault.TheVariants.{NotUtf8, BadSheetName, Rows, Columns, FieldLength, Cells, NoMemory}

-- the byte of `/`
abbrev pub slash : ℕ
slash = 47

-- the part of a file's name behind the last slash: as long as there is a slash, the first byte is left out
abbrev pub behind_slashes : List ℕ → List ℕ
behind_slashes [] = []
behind_slashes (c ∷ cs) = if list_any (λ b. b == slash) (c ∷ cs) then behind_slashes cs else c ∷ cs

-- how the name of a file of CSV ends
abbrev pub ending : List ℕ
ending = codes ".csv"

-- a name without that at its end
abbrev pub without_ending : List ℕ → List ℕ
without_ending name = if ends_with nat_eq name ending then take (length name - length ending) name else name

-- the name of the sheet that the file of a name is
abbrev pub sheet_name_of : List ℕ → List ℕ
sheet_name_of name = without_ending (behind_slashes name)

-- the fields of a record in a row, from a column on, each as what it gives to the cell there
abbrev pub record_cells : ℕ → ℕ → List (List ℕ) → List BookCell
record_cells row col [] = []
record_cells row col (text ∷ texts) = (record { row = row; col = col; text = text }) ∷ record_cells row (col + 1) texts

-- the same of records from a row on, in reading order
abbrev pub table_cells : ℕ → List (List (List ℕ)) → List BookCell
table_cells row [] = []
table_cells row (fields ∷ rest) = record_cells row 0 fields ++ table_cells (row + 1) rest

-- all fields of a file: commas, double quotes, no header row; a mark of UTF-8 at the front is dropped once
abbrev pub file_cells : List ℕ → List BookCell
file_cells bytes = table_cells 0 (records default_config (strip_bom bytes))

-- a field fills its cell where it has a byte
abbrev pub is_filled : BookCell → Bool
is_filled c = nat_lt 0 (length c.text)

-- the first fault of which the test holds
abbrev pub first_of : List (Bool × BookFault) → Option BookFault
first_of [] = None
first_of (t ∷ ts) = if t.0 then Some t.1 else first_of ts

-- what is wrong with a field before which so many cells are filled
abbrev pub field_fault : ℕ → BookCell → Option BookFault
field_fault filled c = first_of (
    (nat_le ROWS c.row, Rows)
    ∷ (nat_le COLS c.col, Columns)
    ∷ (nat_lt MAX_TEXT (length c.text), FieldLength)
    ∷ (is_filled c && nat_le MAX_CELLS filled, Cells)
    ∷ [])

-- how many cells are filled after a field
abbrev pub filled_after : ℕ → BookCell → ℕ
filled_after filled c = if is_filled c then filled + 1 else filled

-- what is wrong with a field, or else what is wrong behind it
abbrev pub or_behind : Option BookFault → Option BookFault → Option BookFault
or_behind None behind = behind
or_behind (Some e) behind = Some e

-- the first fault of fields in reading order, before which so many cells are filled
abbrev pub first_fault : ℕ → List BookCell → Option BookFault
first_fault filled [] = None
first_fault filled (c ∷ cs) = or_behind (field_fault filled c) (first_fault (filled_after filled c) cs)

-- the sheet of a name and of the fields that fill a cell, or the first fault
abbrev pub sheet_unless : Option BookFault → List ℕ → List BookCell → Result GivenSheet BookFault
sheet_unless (Some e) name fields = Err e
sheet_unless None name fields = Ok (record { name = name; cells = filter is_filled fields })

-- the sheet that a file of this name and these bytes is, in a book of which so many cells are filled
abbrev pub book_sheet_of : List ℕ → List ℕ → ℕ → Result GivenSheet BookFault
book_sheet_of name bytes filled =
    if not (is_utf8 bytes) then Err NotUtf8
    else if not (is_sheet_name (sheet_name_of name)) then Err BadSheetName
    else sheet_unless (first_fault filled (file_cells bytes)) (sheet_name_of name) (file_cells bytes)

-- a reading answers what is said; want of memory is free
abbrev pub AnswersSheet : Result BookSheet BookFault → Result GivenSheet BookFault → Type 0
AnswersSheet (Ok s) said = said ≡ Ok (given_sheet s)
AnswersSheet (Err NoMemory) said = ⊤
AnswersSheet (Err e) said = said ≡ Err e
