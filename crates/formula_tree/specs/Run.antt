-- Runs: sequences of letters, digits, `_`, `.` and `$`, and what they are. Source: this project's own.
use Rattle.std.specs.Prelude.{ℕ, Bool, true, false, not, ◌&&◌, ◌||◌, if◌then◌else◌, nat_lt, ◌==◌, List, [], ◌∷◌, drop, Option, Some, None, option_and_then}
use Rattle.std.specs.List.{prefix_len}
use Rattle.std.specs.Char.{is_ascii_alphabetic, is_ascii_alphanumeric}
use Rattle.digits.specs.Digits.{is_digit}
use Rattle.cell_addr.specs.declared.axis.Axis.{Axis}
use Rattle.cell_addr.specs.declared.axis.Axis.TheVariants.{Rows, Cols}
use Rattle.cell_addr.specs.declared.place.TheConstants.{ROWS, COLS}
use Rattle.cell_addr.specs.SheetName.{is_bare_name}
use Rattle.cell_addr.specs.Address.{letters, after_letters, column_of, row_of}
pub use Rattle.cell_addr.specs.Word.{is_word}
use Rattle.std.specs.Option.{option_zip}
use Rattle.cell_value.specs.Fault.{spells}
use Rattle.cell_value.specs.Scalar.{truth_text}
use Rattle.formula_tree.specs.declared.address.Address.{Address}
use Rattle.formula_tree.specs.declared.address.End.{End}
use Rattle.formula_tree.specs.Token.{Token}
use Rattle.formula_tree.specs.Token as tok

-- blanks: space, tab, line feed and carriage return
abbrev pub is_blank : ℕ → Bool
is_blank c = (c == 32 || c == 9) || (c == 10 || c == 13)

-- a run begins with a letter, `_` or `$`
abbrev pub begins_run : ℕ → Bool
begins_run c = is_ascii_alphabetic c || (c == 95 || c == 36)

-- and goes on with letters, digits, `_`, `.` and `$`
abbrev pub is_run_byte : ℕ → Bool
is_run_byte c = is_ascii_alphanumeric c || ((c == 95 || c == 46) || c == 36)

-- the text begins with this byte
abbrev pub begins_with : ℕ → List ℕ → Bool
begins_with b [] = false
begins_with b (c ∷ cs) = c == b

-- the text begins with a byte that passes the test
abbrev pub begins_with_any : (ℕ → Bool) → List ℕ → Bool
begins_with_any p [] = false
begins_with_any p (c ∷ cs) = p c

-- what follows the first bytes of a text that pass the test
abbrev pub after_while : (ℕ → Bool) → List ℕ → List ℕ
after_while p cs = drop (prefix_len p cs) cs

-- what follows a `$`, or the whole text where it begins with none
abbrev pub after_dollar : List ℕ → List ℕ
after_dollar cs = if begins_with 36 cs then drop 1 cs else cs

-- the address of a row and a column, where they lie within the limits of a sheet of so many rows
abbrev pub address_by : ℕ → Bool → Bool → ℕ × ℕ → Option Address
address_by rows col_fixed row_fixed (row, col) = if nat_lt row rows && nat_lt col COLS
    then Some (record { row = row; col = col; row_fixed = row_fixed; col_fixed = col_fixed })
    else None

-- the address that a run is, of a sheet of so many rows: letters and digits, each with a `$` in front or without
abbrev pub corner_after_by : ℕ → Bool → List ℕ → Option Address
corner_after_by rows col_fixed cs = option_and_then
    (address_by rows col_fixed (begins_with 36 (after_letters cs)))
    (option_zip (row_of (after_dollar (after_letters cs))) (column_of (letters cs)))

abbrev pub corner_by : ℕ → List ℕ → Option Address
corner_by rows run = corner_after_by rows (begins_with 36 run) (after_dollar run)

-- the same of a sheet as it is
abbrev pub address_at : Bool → Bool → ℕ × ℕ → Option Address
address_at col_fixed row_fixed at = address_by ROWS col_fixed row_fixed at

abbrev pub corner_after : Bool → List ℕ → Option Address
corner_after col_fixed cs = corner_after_by ROWS col_fixed cs

abbrev pub corner_of : List ℕ → Option Address
corner_of run = corner_by ROWS run

-- the end of a whole range at a line, where that lies within the limit
abbrev pub end_at : Axis → Bool → ℕ → ℕ → Option End
end_at axis fixed limit line = if nat_lt line limit then Some (record { axis = axis; line = line; fixed = fixed }) else None

-- a row's number where it begins with a digit, and else a column's letters
abbrev pub end_after : ℕ → Bool → List ℕ → Option End
end_after rows fixed cs = if begins_with_any is_digit cs
    then option_and_then (end_at Rows fixed rows) (row_of cs)
    else option_and_then (end_at Cols fixed COLS) (column_of cs)

-- the end of a whole range that a run or the digits of a number are, of a sheet of so many rows: with a `$` in
-- front or without
abbrev pub end_of_run : ℕ → List ℕ → Option End
end_of_run rows cs = end_after rows (begins_with 36 cs) (after_dollar cs)

-- the truth value that a run is, in letters of any case
abbrev pub truth_of : List ℕ → Option Bool
truth_of run = if spells run (truth_text true) then Some true else (if spells run (truth_text false) then Some false else None)

-- a run that is no address is a truth value, or a name where it has the form of one, or neither
abbrev pub word_token : List ℕ → Option Bool → Token
word_token run (Some b) = tok.Truth b
word_token run None = if is_word run then tok.Name run else tok.Other run

-- a run that stands alone is an address before it is anything else
abbrev pub lone_token : List ℕ → Option Address → Token
lone_token run (Some a) = tok.Corner a
lone_token run None = word_token run (truth_of run)

-- `!` follows at once, and no blank follows that
abbrev pub ends_sheet_name : List ℕ → Bool
ends_sheet_name cs = begins_with 33 cs && not (begins_with_any is_blank (drop 1 cs))

-- the run is a sheet's name
abbrev pub is_sheet_run : List ℕ → List ℕ → Bool
is_sheet_run run cs = is_bare_name run && ends_sheet_name cs

-- what a run is, and what follows it, of a sheet of so many rows: before `!` a sheet's name, before `(` a function's
-- word, then an address, a truth value, a name
abbrev pub run_token_by : ℕ → List ℕ → List ℕ → Token × List ℕ
run_token_by rows run cs = if is_sheet_run run cs then (tok.Sheet run, drop 1 cs)
    else (if begins_with 40 (after_while is_blank cs)
    then (if is_word run then (tok.Word run, cs) else (tok.Other run, cs))
    else (lone_token run (corner_by rows run), cs))

-- the same of a sheet as it is
abbrev pub run_token : List ℕ → List ℕ → Token × List ℕ
run_token run cs = run_token_by ROWS run cs
