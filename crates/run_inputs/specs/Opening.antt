-- What a run is told, and the books and the script that its words name. Source: this project's own.
use Rattle.std.specs.Prelude.{ℕ, ◌+◌, nat_lt, nat_le, if◌then◌else◌, Bool, List, [], ◌∷◌, ◌++◌, length, Option, Some, None, Result, Ok, Err, codes}
use Rattle.std.specs.List.{list_any}
use Rattle.cell_addr.specs.Sheets.{same_name}
use Rattle.book_files.specs.Books.{book_sheet_of, sheet_name_of}
use Rattle.book_files.specs.Folder.{Files, load_of}
use Rattle.book_files.specs.declared.error.LoadError.{LoadError}
use Rattle.book_files.specs.declared.error.LoadError.TheVariants.{Missing}
use Rattle.book_files.specs.declared.fault.BookFault.{BookFault}
use Rattle.book_files.specs.declared.fault.BookFault.TheVariants as fault
use Rattle.book_files.specs.declared.input.TheConstants.{MAX_INPUT}
use Rattle.book_model.specs.Given.{GivenSheet}
use Rattle.book_model.specs.declared.limits.TheConstants.{MAX_SHEETS}
use Rattle.run_inputs.specs.Outcome.{Outcome, and_then, ended, too_long}
use Rattle.run_inputs.specs.declared.ending.TheConstants.{NO_BOOK}

-- what a run is told: the files of its folder and the bytes of its source
pub record Told : Type 0 where
  pub files : Files
  pub source : List ℕ

-- what folder and source tell, where both do
abbrev pub told_by : Option Files → Option (List ℕ) → Option Told
told_by (Some files) (Some bytes) = Some (record { files = files; source = bytes })
told_by _ _ = None

-- the bytes of a file, or the end of the run without them: it is missing, or too long
abbrev pub loaded : Outcome → Result (List ℕ) LoadError → Result (List ℕ) Outcome
loaded missing (Ok bytes) = Ok bytes
loaded missing (Err Missing) = Err missing
loaded missing (Err e) = Err too_long

-- a run ends at the book of a file of this name
abbrev pub book_refused : List ℕ → List ℕ → Outcome
book_refused file cause = ended NO_BOOK (codes "book " ++ file ++ codes ": " ++ cause)

-- why a file is no sheet, as a run says it
abbrev pub fault_text : BookFault → List ℕ
fault_text fault.NotUtf8 = codes "not UTF-8"
fault_text fault.BadSheetName = codes "sheet name invalid"
fault_text fault.Rows = codes "too many rows"
fault_text fault.Columns = codes "too many columns"
fault_text fault.FieldLength = codes "field too long"
fault_text fault.Cells = codes "too many cells"
fault_text fault.NoMemory = codes "out of memory"

-- how many cells sheets fill
abbrev pub filled_in : List GivenSheet → ℕ
filled_in [] = 0
filled_in (s ∷ ss) = length s.cells + filled_in ss

-- one of the sheets has the name, in some case of its ASCII letters
abbrev pub has_name : List GivenSheet → List ℕ → Bool
has_name sheets name = list_any (λ s. same_name s.name name) sheets

-- the sheets with that of a file of this name behind them, as far as its fields let it be one
abbrev pub sheets_with : List GivenSheet → List ℕ → Result GivenSheet BookFault → Result (List GivenSheet) Outcome
sheets_with sheets file (Ok sheet) = Ok (sheets ++ sheet ∷ [])
sheets_with sheets file (Err e) = Err (book_refused file (fault_text e))

-- the same, as far as the file is text, its sheet's name is one, and there may be one more of it
abbrev pub sheets_joined : List GivenSheet → List ℕ → Result GivenSheet BookFault → Result (List GivenSheet) Outcome
sheets_joined sheets file (Err fault.NotUtf8) = Err (book_refused file (fault_text fault.NotUtf8))
sheets_joined sheets file (Err fault.BadSheetName) = Err (book_refused file (fault_text fault.BadSheetName))
sheets_joined sheets file read =
    if has_name sheets (sheet_name_of file) then Err (book_refused file (codes "sheet name taken"))
    else if nat_le MAX_SHEETS (length sheets) then Err (book_refused file (codes "too many sheets"))
    else sheets_with sheets file read

-- the sheets with the book of a file of this name behind them, or the run's end
abbrev pub book_joined : Files → List GivenSheet → List ℕ → Result (List GivenSheet) Outcome
book_joined files sheets file =
    and_then (loaded (book_refused file (codes "missing")) (load_of MAX_INPUT (files file)))
    (λ bytes. sheets_joined sheets file (book_sheet_of file bytes (filled_in sheets)))

-- the same of several books, one after the other
abbrev pub books_joined : Files → List GivenSheet → List (List ℕ) → Result (List GivenSheet) Outcome
books_joined files sheets [] = Ok sheets
books_joined files sheets (file ∷ rest) = and_then (book_joined files sheets file) (λ more. books_joined files more rest)

-- an empty sheet of the name `Sheet1`
abbrev pub empty_sheet : GivenSheet
empty_sheet = record { name = codes "Sheet1"; cells = [] }

-- the sheets that a run begins with: those of its books, or one empty sheet where it is given none
abbrev pub sheets_told : Files → List (List ℕ) → Result (List GivenSheet) Outcome
sheets_told files [] = Ok (empty_sheet ∷ [])
sheets_told files (file ∷ rest) = books_joined files [] (file ∷ rest)

-- a run ends without the file of its script
abbrev pub script_missing : List ℕ → Outcome
script_missing file = ended NO_BOOK (codes "script " ++ file ++ codes ": missing")

-- the bytes of the script: those of its file, or of the source where it has none
abbrev pub script_told : Told → Option (List ℕ) → Result (List ℕ) Outcome
script_told told (Some file) = loaded (script_missing file) (load_of MAX_INPUT (told.files file))
script_told told None = if nat_lt MAX_INPUT (length told.source) then Err too_long else Ok told.source
