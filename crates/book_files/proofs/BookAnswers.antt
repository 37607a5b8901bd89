-- The sheet of a file by what its fields fill. It serves the reader of books.
use Rattle.std.proofs.Common.{◌≡◌, ◌∙◌, sym, ap, refl, arith, ℕ, ◌+◌, Bool, true, false, List, [], Bor, Some, None, Result, Ok, Err}
use Rattle.std.specs.Prelude.{IsUtf8, MatchResult, filter}
use Rattle.std.specs.Result.{is_ok}
use Rattle.std.specs.Str.{is_utf8}
use Rattle.std.proofs.lemmas.List.{append-nil}
use Rattle.std.proofs.lemmas.Str.{IsUtf8-from_is_utf8, is_utf8-from_IsUtf8}
use Rattle.book_model.specs.Refusals.{is_sheet_name}
use Rattle.book_model.specs.declared.given.BookCell.{BookCell}
use Rattle.book_files.specs.Books.{AnswersSheet, book_sheet_of, file_cells, first_fault, is_filled, sheet_name_of}
use Rattle.book_files.specs.internal.Filling.{FillsAll, HasRead}
use Rattle.book_files.specs.declared.fault.BookFault.{BookFault}
use Rattle.book_files.specs.declared.fault.BookFault.TheVariants.{NotUtf8, BadSheetName, Rows, Columns, FieldLength, Cells, NoMemory}

fails : (b : Bool) (P : Type 0) → (b ≡ true → P) → ¬ P → b ≡ false
fails true P holds isnt = absurd (isnt (holds refl))
fails false P holds isnt = refl

-- a test for UTF-8 tells it
pub tells-utf8 : {E : Type 0} (Q : E → Type 0) (bytes : List ℕ) (r : Result (Bor (List ℕ)) E)
    → MatchResult r (λ s. (s.now ≡ bytes) × IsUtf8 bytes) (λ e. ¬ (IsUtf8 bytes) × Q e) → is_ok r ≡ is_utf8 bytes
tells-utf8 Q bytes (Ok s) read = sym (is_utf8-from_IsUtf8 bytes read.1)
tells-utf8 Q bytes (Err e) read = sym (fails (is_utf8 bytes) (IsUtf8 bytes) (IsUtf8-from_is_utf8 bytes) read.0)

pub not-text : (name bytes : List ℕ) (filled : ℕ) → is_utf8 bytes ≡ false → book_sheet_of name bytes filled ≡ Err NotUtf8
not-text name bytes filled u = rw u refl

pub bad-name : (name bytes : List ℕ) (filled : ℕ) → is_utf8 bytes ≡ true → is_sheet_name (sheet_name_of name) ≡ false → book_sheet_of name bytes filled ≡ Err BadSheetName
bad-name name bytes filled u n = rw (u, n) refl

pub a-fault : (name bytes : List ℕ) (filled : ℕ) (e : BookFault) → is_utf8 bytes ≡ true → is_sheet_name (sheet_name_of name) ≡ true → first_fault filled (file_cells bytes) ≡ Some e → book_sheet_of name bytes filled ≡ Err e
a-fault name bytes filled e u n f = rw (u, n, f) refl

-- a fault of the fields is the file's
pub faulty : (e : BookFault) (name bytes : List ℕ) (filled : ℕ) → is_utf8 bytes ≡ true → is_sheet_name (sheet_name_of name) ≡ true → FillsAll filled (file_cells bytes) (Err e) → AnswersSheet (Err e) (book_sheet_of name bytes filled)
faulty NotUtf8 name bytes filled u n f = a-fault name bytes filled NotUtf8 u n f
faulty BadSheetName name bytes filled u n f = a-fault name bytes filled BadSheetName u n f
faulty Rows name bytes filled u n f = a-fault name bytes filled Rows u n f
faulty Columns name bytes filled u n f = a-fault name bytes filled Columns u n f
faulty FieldLength name bytes filled u n f = a-fault name bytes filled FieldLength u n f
faulty Cells name bytes filled u n f = a-fault name bytes filled Cells u n f
faulty NoMemory name bytes filled u n f = tt

-- fields that were all read have no fault, and fill these cells
pub all-read : (filled : ℕ) (all cells : List BookCell) → HasRead filled [] all cells [] → (first_fault filled all ≡ None) × (filter is_filled all ≡ cells)
all-read filled all cells read = let none : filled ≡ filled + 0 = omega arith in (ap (λ n. first_fault n all) none ∙ read.0, read.1 ∙ append-nil cells)

-- fields without a fault are the sheet
pub faultless : (name bytes : List ℕ) (filled : ℕ) (cells : List BookCell) → is_utf8 bytes ≡ true → is_sheet_name (sheet_name_of name) ≡ true → HasRead filled [] (file_cells bytes) cells [] → book_sheet_of name bytes filled ≡ Ok (record { name = sheet_name_of name; cells = cells })
faultless name bytes filled cells u n read =
    let whole = all-read filled (file_cells bytes) cells read in
    rw (u, n, whole.0, whole.1) refl
