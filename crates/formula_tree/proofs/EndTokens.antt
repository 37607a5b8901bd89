-- The tokens of the ends of whole ranges, and that they are those ends. Serves the law that the canonical text spells
-- its tree.
use Rattle.std.proofs.Common.{◌≡◌, ◌∙◌, ap, subst, arith, ℕ, ◌+◌, ◌<◌, Bool, true, false, nat_lt, if◌then◌else◌, List, [], ◌∷◌, drop, Some}
use Rattle.std.specs.Option.{option_and_then}
use Rattle.std.specs.Fmt.{decimal}
use Rattle.std.proofs.lemmas.Bool.{cond-true, cond-false, lt-ltb}
use Rattle.std.proofs.lemmas.List.{append-nil}
use Rattle.digits.specs.Digits.{is_digit}
use Rattle.cell_addr.specs.declared.axis.Axis.{Axis}
use Rattle.cell_addr.specs.declared.axis.Axis.TheVariants.{Rows, Cols}
use Rattle.cell_addr.specs.declared.place.TheConstants.{ROWS, COLS}
use Rattle.cell_addr.specs.Address.{column_letters}
use Rattle.cell_addr.specs.Axis.{line_of}
use Rattle.cell_addr.specs.Place as places
use Rattle.cell_addr.proofs.Printed.{row_of-decimal, column_of-column_letters}
use Rattle.formula_tree.specs.declared.address.End.{End}
use Rattle.formula_tree.specs.declared.reference.Corner.{Corner}
use Rattle.formula_tree.specs.Grammar.{end_of}
use Rattle.formula_tree.specs.Run.{begins_with, begins_with_any, end_at, end_after, end_of_run}
use Rattle.formula_tree.specs.Token.{Token}
use Rattle.formula_tree.specs.Token as tok
use Rattle.formula_tree.specs.Whole.{fixed_along}
use Rattle.formula_tree.proofs.LettersDigits.{column-letters, row-digits, digits-first, letters-no_digit, digits-no_dollar, letters-no_dollar}

-- the token of a column's letters, and of a row's digits
abbrev pub column_token : Bool → ℕ → Token
column_token fixed col = if fixed then tok.Other (36 ∷ column_letters col) else tok.Name (column_letters col)

abbrev pub row_token : Bool → ℕ → Token
row_token fixed row = if fixed then tok.Other (36 ∷ decimal (row + 1)) else tok.Number (decimal (row + 1))

-- the token of a corner's line along an axis, and the end that it is
abbrev pub line_token : Axis → Corner → Token
line_token Rows c = row_token c.row_fixed c.at.row
line_token Cols c = column_token c.col_fixed c.at.col

abbrev pub end_along : Axis → Corner → End
end_along axis c = record { axis = axis; line = line_of axis c.at; fixed = fixed_along axis c }

row-end : (fixed : Bool) (row : ℕ) → row < ROWS → end_after ROWS fixed (decimal (row + 1)) ≡ Some (record { axis = Rows; line = row; fixed = fixed })
row-end fixed row h =
    let ds : List ℕ = decimal (row + 1) in
    cond-true (begins_with_any is_digit ds) _ _ (digits-first ds (row-digits row h))
    ∙ ap (option_and_then (end_at Rows fixed ROWS)) (row_of-decimal row (omega (arith, h)))
    ∙ cond-true (nat_lt row ROWS) _ _ (lt-ltb row ROWS h)

column-end : (fixed : Bool) (col : ℕ) → col < COLS → end_after ROWS fixed (column_letters col) ≡ Some (record { axis = Cols; line = col; fixed = fixed })
column-end fixed col h =
    let ls : List ℕ = column_letters col in
    cond-false (begins_with_any is_digit ls) _ _ (letters-no_digit ls (column-letters col h))
    ∙ ap (option_and_then (end_at Cols fixed COLS)) (column_of-column_letters col h)
    ∙ cond-true (nat_lt col COLS) _ _ (lt-ltb col COLS h)

-- a run without a `$` in front
plain-run : (cs : List ℕ) → begins_with 36 cs ≡ false → end_of_run ROWS cs ≡ end_after ROWS false cs
plain-run cs h = ap (λ b. end_after ROWS b (if b then drop 1 cs else cs)) h

row-token : (fixed : Bool) (row : ℕ) → row < ROWS → end_of ROWS (row_token fixed row) ≡ Some (record { axis = Rows; line = row; fixed = fixed })
row-token true row h = row-end true row h
row-token false row h = plain-run (decimal (row + 1)) (digits-no_dollar (decimal (row + 1)) (row-digits row h)) ∙ row-end false row h

column-token : (fixed : Bool) (col : ℕ) → col < COLS → end_of ROWS (column_token fixed col) ≡ Some (record { axis = Cols; line = col; fixed = fixed })
column-token true col h = column-end true col h
column-token false col h =
    let ls : List ℕ = column_letters col in
    let plain : begins_with 36 ls ≡ false = subst (λ x. begins_with 36 x ≡ false) (append-nil ls) (letters-no_dollar ls [] (column-letters col h)) in
    plain-run ls plain ∙ column-end false col h

pub end_of-line_token : (axis : Axis) (c : Corner) → places.IsInside c.at → end_of ROWS (line_token axis c) ≡ Some (end_along axis c)
end_of-line_token Rows c p = row-token c.row_fixed c.at.row p.0
end_of-line_token Cols c p = column-token c.col_fixed c.at.col p.1
