-- The tokens of runs: names, functions' words, truth values, sheets' names and addresses. Serves the
-- law that the canonical text spells its tree.
use Rattle.std.proofs.Common.{◌≡◌, sym, ◌∙◌, ap, subst, refl, arith, ℕ, ◌+◌, ◌<◌, ◌≤◌, Bool, true, false, not, ◌&&◌, ◌||◌, ◌==◌, nat_lt, List, [], ◌∷◌, ◌++◌, length, drop, Some, append_assoc, length-append}
use Rattle.std.specs.Option.{option_and_then}
use Rattle.std.specs.List.{list_all}
use Rattle.std.specs.Char.{is_ascii_alphabetic, is_ascii_alphanumeric}
use Rattle.std.specs.Fmt.{decimal}
use Rattle.std.proofs.lemmas.Bool.{and_parts, and_from, and_left, and_right, cond-true, cond-false, lt-ltb}
use Rattle.std.proofs.lemmas.Bool.Decides.{nat_tests}
use Rattle.std.proofs.lemmas.List.Folds.{list_all-append}
use Rattle.digits.specs.Digits.{is_digit}
use Rattle.cell_addr.specs.declared.place.TheConstants.{ROWS, COLS}
use Rattle.cell_addr.specs.Place as places
use Rattle.cell_addr.specs.Address.{column_letters, column_of, row_of, letters, after_letters}
use Rattle.std.specs.Option.{option_zip}
use Rattle.cell_addr.specs.SheetName.{is_bare_name, is_name_start, is_name_byte}
use Rattle.cell_addr.proofs.Printed.{row_of-decimal, column_of-column_letters}
use Rattle.cell_value.specs.Scalar.{truth_text}
use Rattle.formula_tree.specs.declared.reference.Corner.{Corner}
use Rattle.formula_tree.specs.Token.{Token}
use Rattle.formula_tree.specs.Token as tok
use Rattle.formula_tree.specs.Run.{is_blank, begins_run, is_run_byte, begins_with, begins_with_any, after_while, is_word, after_dollar, address_at, corner_after, corner_of, word_token, lone_token, ends_sheet_name, is_sheet_run, run_token}
use Rattle.formula_tree.specs.Tokens.{token_at}
use Rattle.formula_tree.specs.Canonical.{dollar, corner_text}
use Rattle.formula_tree.specs.Proper.{IsName, IsCallWord}
use Rattle.formula_tree.proofs.Fronts.{take_while-append, after_while-append, all-weaker}
use Rattle.formula_tree.proofs.LettersDigits.{AreLetters, AreDigits, column-letters, row-digits, digits-no_letter, digits-no_dollar, letters-no_dollar, letter-begins, letter-goes_on, digit-goes_on}
use Rattle.formula_tree.proofs.Lexes.{Lexes, lexes-token, Stopped}
use Rattle.formula_tree.proofs.Written.{address_of}

-- a run: its first byte begins one, and all of its bytes go on in one
abbrev pub IsRun : List ℕ → Type 0
IsRun [] = ⊥
IsRun (c ∷ cs) = (begins_run c ≡ true) × (list_all is_run_byte (c ∷ cs) ≡ true)

pub run-not_blank : (c : ℕ) → begins_run c ≡ true → is_blank c ≡ false
run-not_blank c h = grind (arith, nat_tests)

run-front : (c : ℕ) (w cs : List ℕ) → IsRun (c ∷ w) → begins_with_any is_run_byte cs ≡ false → token_at c (w ++ cs) ≡ Some (run_token (c ∷ w) cs)
run-front c w cs r h =
    cond-true (begins_run c) _ _ r.0
    ∙ ap (λ x. Some (run_token x (after_while is_run_byte ((c ∷ w) ++ cs)))) (take_while-append is_run_byte (c ∷ w) cs r.1 h)
    ∙ ap (λ y. Some (run_token (c ∷ w) y)) (after_while-append is_run_byte (c ∷ w) cs r.1 h)

-- a run with its token and what follows that
pub lexes-run : (w cs : List ℕ) (token : Token) (rest : List ℕ) (tokens : List Token) → IsRun w → begins_with_any is_run_byte cs ≡ false
    → run_token w cs ≡ (token, rest) → length rest ≤ length cs → Lexes rest tokens → Lexes (w ++ cs) (token ∷ tokens)
lexes-run [] cs token rest tokens r h e s l = absurd r
lexes-run (c ∷ w) cs token rest tokens r h e s l =
    lexes-token c (w ++ cs) token rest tokens (run-not_blank c r.0) (run-front c w cs r h ∙ ap (λ p. Some p) e) (omega (arith, length-append w cs)) l

-- words and bare names are runs
word_start-begins : (c : ℕ) → (is_ascii_alphabetic c || c == 95) ≡ true → begins_run c ≡ true
word_start-begins c h = grind (arith, nat_tests)

word_start-goes_on : (c : ℕ) → (is_ascii_alphabetic c || c == 95) ≡ true → is_run_byte c ≡ true
word_start-goes_on c h = grind (arith, nat_tests)

word_byte-goes_on : (c : ℕ) → (is_ascii_alphanumeric c || (c == 95 || c == 46)) ≡ true → is_run_byte c ≡ true
word_byte-goes_on c h = grind (arith, nat_tests)

pub IsRun-word : (w : List ℕ) → is_word w ≡ true → IsRun w
IsRun-word [] h = absurd (cc)
IsRun-word (c ∷ cs) h =
    let parts = and_parts (is_ascii_alphabetic c || c == 95) (list_all (λ d. is_ascii_alphanumeric d || (d == 95 || d == 46)) cs) h in (
      word_start-begins c parts.0,
      and_from (is_run_byte c) (list_all is_run_byte cs) (word_start-goes_on c parts.0) (all-weaker (λ d. is_ascii_alphanumeric d || (d == 95 || d == 46)) is_run_byte word_byte-goes_on cs parts.1),
    )

name_byte-goes_on : (c : ℕ) → is_name_byte c ≡ true → is_run_byte c ≡ true
name_byte-goes_on c h = grind (arith, nat_tests)

pub IsRun-bare : (w : List ℕ) → is_bare_name w ≡ true → IsRun w
IsRun-bare [] h = absurd (cc)
IsRun-bare (c ∷ cs) h =
    let parts = and_parts (not (length (c ∷ cs) == 0) && is_name_start c) (list_all is_name_byte (c ∷ cs)) h in
    let start = and_parts (not (length (c ∷ cs) == 0)) (is_name_start c) parts.0 in
    (word_start-begins c start.1, all-weaker is_name_byte is_run_byte name_byte-goes_on (c ∷ cs) parts.1)

-- a run that stands alone
pub run_token-lone : (w cs : List ℕ) → Stopped cs → run_token w cs ≡ (lone_token w (corner_of w), cs)
run_token-lone w cs s =
    cond-false (is_sheet_run w cs) _ _ (and_right (is_bare_name w) (ends_sheet_name cs) (and_left (begins_with 33 cs) (not (begins_with_any is_blank (drop 1 cs))) s.no_sheet))
    ∙ cond-false (begins_with 40 (after_while is_blank cs)) _ _ s.no_call

run_token-name : (w cs : List ℕ) → IsName w → Stopped cs → run_token w cs ≡ (tok.Name w, cs)
run_token-name w cs n s =
    run_token-lone w cs s
    ∙ ap (λ a. (lone_token w a, cs)) n.1
    ∙ ap (λ b. (word_token w b, cs)) n.2
    ∙ ap (λ t. (t, cs)) (cond-true (is_word w) (tok.Name w) (tok.Other w) n.0)

pub lexes-name : (w cs : List ℕ) (tokens : List Token) → IsName w → Stopped cs → Lexes cs tokens → Lexes (w ++ cs) (tok.Name w ∷ tokens)
lexes-name w cs tokens n s l = lexes-run w cs (tok.Name w) cs tokens (IsRun-word w n.0) s.no_run (run_token-name w cs n s) (omega arith) l

run_token-truth : (b : Bool) (cs : List ℕ) → Stopped cs → run_token (truth_text b) cs ≡ (tok.Truth b, cs)
run_token-truth true cs s = run_token-lone (truth_text true) cs s
run_token-truth false cs s = run_token-lone (truth_text false) cs s

IsRun-truth : (b : Bool) → IsRun (truth_text b)
IsRun-truth true = (refl, refl)
IsRun-truth false = (refl, refl)

pub lexes-truth : (b : Bool) (cs : List ℕ) (tokens : List Token) → Stopped cs → Lexes cs tokens → Lexes (truth_text b ++ cs) (tok.Truth b ∷ tokens)
lexes-truth b cs tokens s l = lexes-run (truth_text b) cs (tok.Truth b) cs tokens (IsRun-truth b) s.no_run (run_token-truth b cs s) (omega arith) l

run_token-word : (w cs : List ℕ) → is_word w ≡ true → run_token w (40 ∷ cs) ≡ (tok.Word w, 40 ∷ cs)
run_token-word w cs h =
    cond-false (is_sheet_run w (40 ∷ cs)) _ _ (and_right (is_bare_name w) false refl)
    ∙ cond-true (is_word w) (tok.Word w, 40 ∷ cs) (tok.Other w, 40 ∷ cs) h

pub lexes-word : (w cs : List ℕ) (tokens : List Token) → IsCallWord w → Lexes (40 ∷ cs) tokens → Lexes (w ++ (40 ∷ cs)) (tok.Word w ∷ tokens)
lexes-word w cs tokens h l = lexes-run w (40 ∷ cs) (tok.Word w) (40 ∷ cs) tokens (IsRun-word w h.0) refl (run_token-word w cs h.0) (omega arith) l

run_token-sheet : (w cs : List ℕ) → is_bare_name w ≡ true → begins_with_any is_blank cs ≡ false → run_token w (33 ∷ cs) ≡ (tok.Sheet w, cs)
run_token-sheet w cs h b = cond-true (is_sheet_run w (33 ∷ cs)) _ _ (and_from (is_bare_name w) (not (begins_with_any is_blank cs)) h (ap not b))

pub lexes-bare_sheet : (w cs : List ℕ) (tokens : List Token) → is_bare_name w ≡ true → begins_with_any is_blank cs ≡ false → Lexes cs tokens
    → Lexes (w ++ (33 ∷ cs)) (tok.Sheet w ∷ tokens)
lexes-bare_sheet w cs tokens h b l = lexes-run w (33 ∷ cs) (tok.Sheet w) cs tokens (IsRun-bare w h) refl (run_token-sheet w cs h b) (omega arith) l

-- addresses: letters and digits, each with a `$` in front or without
letters-stop : (fixed : Bool) (ds : List ℕ) → AreDigits ds → begins_with_any is_ascii_alphabetic (dollar fixed ds) ≡ false
letters-stop true ds d = refl
letters-stop false ds d = digits-no_letter ds d

dollar-is : (fixed : Bool) (ds : List ℕ) → begins_with 36 ds ≡ false → begins_with 36 (dollar fixed ds) ≡ fixed
dollar-is true ds h = refl
dollar-is false ds h = h

after_dollar-dollar : (fixed : Bool) (cs : List ℕ) → begins_with 36 cs ≡ false → after_dollar (dollar fixed cs) ≡ cs
after_dollar-dollar true cs h = refl
after_dollar-dollar false cs h = cond-false (begins_with 36 cs) (drop 1 cs) cs h

address_at-inside : (col_fixed row_fixed : Bool) (row col : ℕ) → row < ROWS → col < COLS
    → address_at col_fixed row_fixed (row, col) ≡ Some (record { row = row; col = col; row_fixed = row_fixed; col_fixed = col_fixed })
address_at-inside col_fixed row_fixed row col r c =
    cond-true (nat_lt row ROWS && nat_lt col COLS) _ _ (and_from (nat_lt row ROWS) (nat_lt col COLS) (lt-ltb row ROWS r) (lt-ltb col COLS c))

corner_after-parts : (col_fixed row_fixed : Bool) (ls ds : List ℕ) (row col : ℕ) → AreLetters ls → AreDigits ds → column_of ls ≡ Some col → row_of ds ≡ Some row → row < ROWS → col < COLS
    → corner_after col_fixed (ls ++ dollar row_fixed ds) ≡ Some (record { row = row; col = col; row_fixed = row_fixed; col_fixed = col_fixed })
corner_after-parts col_fixed row_fixed ls ds row col l d e f r c =
    let stop = letters-stop row_fixed ds d in
    let front : letters (ls ++ dollar row_fixed ds) ≡ ls = take_while-append is_ascii_alphabetic ls (dollar row_fixed ds) l.1 stop in
    let back : after_letters (ls ++ dollar row_fixed ds) ≡ dollar row_fixed ds = after_while-append is_ascii_alphabetic ls (dollar row_fixed ds) l.1 stop in
    let no_dollar = digits-no_dollar ds d in
    ap (λ x. option_and_then (address_at col_fixed (begins_with 36 x)) (option_zip (row_of (after_dollar x)) (column_of (letters (ls ++ dollar row_fixed ds))))) back
    ∙ ap (λ x. option_and_then (address_at col_fixed (begins_with 36 (dollar row_fixed ds))) (option_zip (row_of (after_dollar (dollar row_fixed ds))) (column_of x))) front
    ∙ ap (λ b. option_and_then (address_at col_fixed b) (option_zip (row_of (after_dollar (dollar row_fixed ds))) (column_of ls))) (dollar-is row_fixed ds no_dollar)
    ∙ ap (λ x. option_and_then (address_at col_fixed row_fixed) (option_zip (row_of x) (column_of ls))) (after_dollar-dollar row_fixed ds no_dollar)
    ∙ ap (λ x. option_and_then (address_at col_fixed row_fixed) (option_zip x (column_of ls))) f
    ∙ ap (λ x. option_and_then (address_at col_fixed row_fixed) (option_zip (Some row) x)) e
    ∙ address_at-inside col_fixed row_fixed row col r c

-- the bytes of an address
abbrev corner_bytes : Corner → List ℕ
corner_bytes c = dollar c.col_fixed (column_letters c.at.col ++ dollar c.row_fixed (decimal (c.at.row + 1)))

dollar-append : (fixed : Bool) (xs ys : List ℕ) → dollar fixed (xs ++ ys) ≡ dollar fixed xs ++ ys
dollar-append true xs ys = refl
dollar-append false xs ys = refl

pub corner_text-append : (c : Corner) (rest : List ℕ) → corner_text c rest ≡ corner_bytes c ++ rest
corner_text-append c rest =
    ap (λ x. dollar c.col_fixed (column_letters c.at.col ++ x)) (dollar-append c.row_fixed (decimal (c.at.row + 1)) rest)
    ∙ ap (dollar c.col_fixed) (sym (append_assoc (column_letters c.at.col) (dollar c.row_fixed (decimal (c.at.row + 1))) rest))
    ∙ dollar-append c.col_fixed (column_letters c.at.col ++ dollar c.row_fixed (decimal (c.at.row + 1))) rest

corner_of-bytes : (c : Corner) → places.IsInside c.at → corner_of (corner_bytes c) ≡ Some (address_of c)
corner_of-bytes c p =
    let l = column-letters c.at.col p.1 in
    let d = row-digits c.at.row p.0 in
    let rest : List ℕ = dollar c.row_fixed (decimal (c.at.row + 1)) in
    let no_dollar = letters-no_dollar (column_letters c.at.col) rest l in
    ap (λ b. corner_after b (after_dollar (corner_bytes c))) (dollar-is c.col_fixed (column_letters c.at.col ++ rest) no_dollar)
    ∙ ap (corner_after c.col_fixed) (after_dollar-dollar c.col_fixed (column_letters c.at.col ++ rest) no_dollar)
    ∙ corner_after-parts c.col_fixed c.row_fixed (column_letters c.at.col) (decimal (c.at.row + 1)) c.at.row c.at.col l d
    (column_of-column_letters c.at.col p.1) (row_of-decimal c.at.row (omega (arith, p.0))) p.0 p.1

goes_on-dollar : (fixed : Bool) (cs : List ℕ) → list_all is_run_byte cs ≡ true → list_all is_run_byte (dollar fixed cs) ≡ true
goes_on-dollar true cs h = h
goes_on-dollar false cs h = h

IsRun-letters : (fixed : Bool) (ls rest : List ℕ) → AreLetters ls → list_all is_run_byte (ls ++ rest) ≡ true → IsRun (dollar fixed (ls ++ rest))
IsRun-letters true ls rest l h = (refl, h)
IsRun-letters false [] rest l h = absurd (omega (arith, l.0))
IsRun-letters false (c ∷ ls) rest l h = (letter-begins c (and_parts (is_ascii_alphabetic c) (list_all is_ascii_alphabetic ls) l.1).0, h)

IsRun-corner : (c : Corner) → places.IsInside c.at → IsRun (corner_bytes c)
IsRun-corner c p =
    let l = column-letters c.at.col p.1 in
    let d = row-digits c.at.row p.0 in
    let rest : List ℕ = dollar c.row_fixed (decimal (c.at.row + 1)) in
    IsRun-letters c.col_fixed (column_letters c.at.col) rest l
    (list_all-append is_run_byte (column_letters c.at.col) rest
    ∙ and_from (list_all is_run_byte (column_letters c.at.col)) (list_all is_run_byte rest)
    (all-weaker is_ascii_alphabetic is_run_byte letter-goes_on (column_letters c.at.col) l.1)
    (goes_on-dollar c.row_fixed (decimal (c.at.row + 1)) (all-weaker is_digit is_run_byte digit-goes_on (decimal (c.at.row + 1)) d.1)))

pub lexes-corner : (c : Corner) (cs : List ℕ) (tokens : List Token) → places.IsInside c.at → Stopped cs → Lexes cs tokens → Lexes (corner_text c cs) (tok.Corner (address_of c) ∷ tokens)
lexes-corner c cs tokens p s l =
    subst (λ x. Lexes x (tok.Corner (address_of c) ∷ tokens)) (sym (corner_text-append c cs))
    (lexes-run (corner_bytes c) cs (tok.Corner (address_of c)) cs tokens (IsRun-corner c p) s.no_run
    (run_token-lone (corner_bytes c) cs s ∙ ap (λ a. (lone_token (corner_bytes c) a, cs)) (corner_of-bytes c p)) (omega arith) l)

-- what an address begins with
pub corner_text-begins : (c : Corner) (cs : List ℕ) → places.IsInside c.at → (w : List ℕ) × (IsRun w × (corner_text c cs ≡ w ++ cs))
corner_text-begins c cs p = (corner_bytes c, (IsRun-corner c p, corner_text-append c cs))
