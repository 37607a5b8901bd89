-- The ends of whole ranges in texts are their tokens. Serves the law that the canonical text spells its tree.
use Rattle.std.proofs.Common.{◌≡◌, ◌∙◌, ap, refl, arith, subst, ℕ, ◌+◌, ◌<◌, ◌≤◌, Bool, true, false, ◌==◌, ◌||◌, if◌then◌else◌, List, [], ◌∷◌, ◌++◌, length, drop, Option, Some, None}
use Rattle.std.specs.Option.{option_and_then, option_zip}
use Rattle.std.specs.List.{list_all}
use Rattle.std.specs.Char.{is_ascii_alphabetic, is_ascii_alphanumeric, to_ascii_lowercase}
use Rattle.std.specs.Fmt.{decimal}
use Rattle.std.proofs.lemmas.Bool.{and_parts, and_from, or_left, cond-false, false_from_ne_true}
use Rattle.std.proofs.lemmas.Bool.Decides.{nat_tests}
use Rattle.std.proofs.lemmas.List.{append-nil, length-map}
use Rattle.std.proofs.lemmas.Slice.Eq.{bytes_eq-Decides}
use Rattle.digits.specs.Digits.{is_digit}
use Rattle.cell_addr.specs.declared.axis.Axis.{Axis}
use Rattle.cell_addr.specs.declared.axis.Axis.TheVariants.{Rows, Cols}
use Rattle.cell_addr.specs.declared.place.TheConstants.{ROWS, COLS}
use Rattle.cell_addr.specs.Address.{column_letters, column_of, row_of, letters, after_letters}
use Rattle.cell_addr.specs.Place as places
use Rattle.cell_addr.specs.Text.{folded}
use Rattle.cell_addr.proofs.Printed.{column_letters-spell}
use Rattle.cell_value.specs.Fault.{spells}
use Rattle.cell_value.specs.Scalar.{truth_text}
use Rattle.formula_tree.specs.declared.address.Address.{Address}
use Rattle.formula_tree.specs.declared.reference.Corner.{Corner}
use Rattle.formula_tree.specs.Canonical.{dollar, line_text}
use Rattle.formula_tree.specs.Proper.{IsName}
use Rattle.formula_tree.specs.Run.{begins_with, is_blank, is_run_byte, begins_with_any, is_word, after_dollar, address_at, corner_after, truth_of, lone_token}
use Rattle.formula_tree.specs.Token.{Token}
use Rattle.formula_tree.specs.Token as tok
use Rattle.formula_tree.proofs.EndTokens.{column_token, row_token, line_token}
use Rattle.formula_tree.proofs.Fronts.{all-weaker}
use Rattle.formula_tree.proofs.LettersDigits.{AreLetters, AreDigits, column-letters, row-digits, digits-begin, letters-digits, letters-no_dollar, after_letters-letters, letter-goes_on, digit-goes_on}
use Rattle.formula_tree.proofs.LexedNumbers.{lexes-all_digits, digit-not_blank}
use Rattle.formula_tree.proofs.LexedRuns.{IsRun, IsRun-word, run_token-lone, lexes-run, lexes-name, run-not_blank}
use Rattle.formula_tree.proofs.Lexes.{Lexes, Stopped}

-- letters alone are a word, and no address; digits alone are no address either
letter-word_byte : (c : ℕ) → is_ascii_alphabetic c ≡ true → (is_ascii_alphanumeric c || (c == 95 || c == 46)) ≡ true
letter-word_byte c h = grind (arith, nat_tests)

letters-word : (ls : List ℕ) → AreLetters ls → is_word ls ≡ true
letters-word [] l = absurd (omega (arith, l.0))
letters-word (c ∷ ls) l =
    let parts = and_parts (is_ascii_alphabetic c) (list_all is_ascii_alphabetic ls) l.1 in
    and_from _ _ (or_left (is_ascii_alphabetic c) (c == 95) parts.0) (all-weaker is_ascii_alphabetic (λ d. is_ascii_alphanumeric d || (d == 95 || d == 46)) letter-word_byte ls parts.1)

letters-no_corner : (f : Bool) (ls : List ℕ) → AreLetters ls → corner_after f ls ≡ None
letters-no_corner f ls l =
    ap (λ x. option_and_then (address_at f (begins_with 36 x)) (option_zip (row_of (after_dollar x)) (column_of (letters ls)))) (after_letters-letters ls l)

zip-none : (x : Option ℕ) → option_zip x (column_of []) ≡ None
zip-none None = refl
zip-none (Some n) = refl

digits-no_corner : (f : Bool) (ds : List ℕ) → AreDigits ds → corner_after f ds ≡ None
digits-no_corner f ds d =
    let row : Option ℕ = row_of (after_dollar (after_letters ds)) in
    let at : ℕ × ℕ → Option Address = address_at f (begins_with 36 (after_letters ds)) in
    ap (λ x. option_and_then at (option_zip row (column_of x))) (letters-digits ds d) ∙ ap (option_and_then at) (zip-none row)

-- a text that is shorter than a word doesn't spell it
spells-short : (cs word : List ℕ) → length cs < length word → spells cs word ≡ false
spells-short cs word h =
    false_from_ne_true (spells cs word) (λ t.
    let e : length (folded cs) ≡ length (folded word) = ap length ((bytes_eq-Decides (folded cs) (folded word)).0 t) in
    omega (arith, e, length-map cs to_ascii_lowercase, length-map word to_ascii_lowercase, h))

truth-short : (cs : List ℕ) → length cs ≤ 3 → truth_of cs ≡ None
truth-short cs h =
    let four : length (truth_text true) ≡ 4 = refl in
    let five : length (truth_text false) ≡ 5 = refl in
    cond-false (spells cs (truth_text true)) _ _ (spells-short cs (truth_text true) (omega (arith, h, four)))
    ∙ cond-false (spells cs (truth_text false)) _ _ (spells-short cs (truth_text false) (omega (arith, h, five)))

column-name : (col : ℕ) → col < COLS → IsName (column_letters col)
column-name col h =
    let ls : List ℕ = column_letters col in
    let l = column-letters col h in
    let plain : begins_with 36 ls ≡ false = subst (λ x. begins_with 36 x ≡ false) (append-nil ls) (letters-no_dollar ls [] l) in (
      letters-word ls l,
      ap (λ b. corner_after b (if b then drop 1 ls else ls)) plain ∙ letters-no_corner false ls l,
      truth-short ls (column_letters-spell col h).few,
    )

-- with a `$` in front they are runs of no other kind
lexes-fixed : (w cs : List ℕ) (tokens : List Token) → list_all is_run_byte w ≡ true → corner_after true w ≡ None → Stopped cs → Lexes cs tokens
    → Lexes ((36 ∷ w) ++ cs) (tok.Other (36 ∷ w) ∷ tokens)
lexes-fixed w cs tokens r n s l =
    lexes-run (36 ∷ w) cs (tok.Other (36 ∷ w)) cs tokens (refl, r) s.no_run
    (run_token-lone (36 ∷ w) cs s ∙ ap (λ a. (lone_token (36 ∷ w) a, cs)) n) (omega arith) l

letters-go_on : (ls : List ℕ) → AreLetters ls → list_all is_run_byte ls ≡ true
letters-go_on ls l = all-weaker is_ascii_alphabetic is_run_byte letter-goes_on ls l.1

digits-go_on : (ds : List ℕ) → AreDigits ds → list_all is_run_byte ds ≡ true
digits-go_on ds d = all-weaker is_digit is_run_byte digit-goes_on ds d.1

lexes-column : (fixed : Bool) (col : ℕ) (cs : List ℕ) (tokens : List Token) → col < COLS → Stopped cs → Lexes cs tokens
    → Lexes (dollar fixed (column_letters col ++ cs)) (column_token fixed col ∷ tokens)
lexes-column true col cs tokens h s l =
    let ls = column-letters col h in
    lexes-fixed (column_letters col) cs tokens (letters-go_on (column_letters col) ls) (letters-no_corner true (column_letters col) ls) s l
lexes-column false col cs tokens h s l = lexes-name (column_letters col) cs tokens (column-name col h) s l

lexes-row : (fixed : Bool) (row : ℕ) (cs : List ℕ) (tokens : List Token) → row < ROWS → Stopped cs → Lexes cs tokens
    → Lexes (dollar fixed (decimal (row + 1) ++ cs)) (row_token fixed row ∷ tokens)
lexes-row true row cs tokens h s l =
    let ds = row-digits row h in
    lexes-fixed (decimal (row + 1)) cs tokens (digits-go_on (decimal (row + 1)) ds) (digits-no_corner true (decimal (row + 1)) ds) s l
lexes-row false row cs tokens h s l =
    let ds = row-digits row h in
    lexes-all_digits (decimal (row + 1)) cs tokens ds.0 ds.1 s l

-- an end of a whole range is one token
pub lexes-line : (axis : Axis) (c : Corner) (cs : List ℕ) (tokens : List Token) → places.IsInside c.at → Stopped cs → Lexes cs tokens
    → Lexes (line_text axis c cs) (line_token axis c ∷ tokens)
lexes-line Rows c cs tokens p s l = lexes-row c.row_fixed c.at.row cs tokens p.0 s l
lexes-line Cols c cs tokens p s l = lexes-column c.col_fixed c.at.col cs tokens p.1 s l

-- what it begins with
letters-no_blank : (ls rest : List ℕ) → AreLetters ls → begins_with_any is_blank (ls ++ rest) ≡ false
letters-no_blank [] rest l = absurd (omega (arith, l.0))
letters-no_blank (c ∷ ls) rest l = run-not_blank c (IsRun-word (c ∷ ls) (letters-word (c ∷ ls) l)).0

digits-no_blank : (ds rest : List ℕ) → AreDigits ds → begins_with_any is_blank (ds ++ rest) ≡ false
digits-no_blank [] rest d = absurd (omega (arith, d.0))
digits-no_blank (c ∷ ds) rest d = digit-not_blank c (and_parts (is_digit c) (list_all is_digit ds) d.1).0

column-no_blank : (fixed : Bool) (col : ℕ) (cs : List ℕ) → col < COLS → begins_with_any is_blank (dollar fixed (column_letters col ++ cs)) ≡ false
column-no_blank true col cs h = refl
column-no_blank false col cs h = letters-no_blank (column_letters col) cs (column-letters col h)

row-no_blank : (fixed : Bool) (row : ℕ) (cs : List ℕ) → row < ROWS → begins_with_any is_blank (dollar fixed (decimal (row + 1) ++ cs)) ≡ false
row-no_blank true row cs h = refl
row-no_blank false row cs h = digits-no_blank (decimal (row + 1)) cs (row-digits row h)

pub line-no_blank : (axis : Axis) (c : Corner) (cs : List ℕ) → places.IsInside c.at → begins_with_any is_blank (line_text axis c cs) ≡ false
line-no_blank Rows c cs p = row-no_blank c.row_fixed c.at.row cs p.0
line-no_blank Cols c cs p = column-no_blank c.col_fixed c.at.col cs p.1

-- a run where it is a column or has a `$`, and else a digit
pub IsRun-column : (col : ℕ) → col < COLS → IsRun (column_letters col)
IsRun-column col h = IsRun-word (column_letters col) (letters-word (column_letters col) (column-letters col h))

pub row-begins : (row : ℕ) (cs : List ℕ) → row < ROWS → begins_with_any is_digit (decimal (row + 1) ++ cs) ≡ true
row-begins row cs h = digits-begin (decimal (row + 1)) cs (row-digits row h)
