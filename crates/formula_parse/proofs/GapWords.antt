-- Gap words: what they are for the lexer, by the rows that a sheet had and by those that it has. Serves the law of
-- migration.
use Rattle.std.proofs.Common.{◌≡◌, sym, ◌∙◌, ap, subst, refl, arith, ℕ, Bool, true, false, ◌&&◌, ◌||◌, ◌==◌, cond, nat_lt, nat_le, List, [], ◌∷◌, ◌++◌, Option, Some, None}
use Rattle.std.specs.Option.{option_and_then, option_zip}
use Rattle.std.specs.List.{list_all, list_any, take_while}
use Rattle.std.specs.Char.{is_ascii_alphabetic, is_ascii_alphanumeric, to_ascii_lowercase}
use Rattle.std.proofs.lemmas.Bool.{and_parts, and_from, both_ways, cond-false, eqb-true, false_from_ne_true}
use Rattle.std.proofs.lemmas.Bool.Decides.{nat_tests}
use Rattle.std.proofs.lemmas.List.{append-nil}
use Rattle.std.proofs.lemmas.List.Folds.{list_all-append}
use Rattle.std.proofs.lemmas.List.Sums.{take_while-cons}
use Rattle.std.proofs.lemmas.Slice.Eq.{bytes_eq-Decides}
use Rattle.digits.specs.Digits.{is_digit}
use Rattle.digits.proofs.Numerals.{is_digit-bounds}
use Rattle.cell_addr.specs.declared.place.TheConstants.{ROWS, COLS}
use Rattle.cell_addr.specs.Address.{after_letters, column_of, is_column, is_row, letters, row_of}
use Rattle.cell_addr.specs.Text.{folded}
use Rattle.cell_value.specs.Fault.{spells}
use Rattle.cell_value.specs.Scalar.{truth_text}
use Rattle.formula_tree.specs.declared.address.Address.{Address}
use Rattle.formula_tree.specs.declared.address.End.{End}
use Rattle.formula_tree.specs.Run.{address_by, after_dollar, after_while, begins_run, begins_with, begins_with_any, corner_by, corner_of, end_after, end_at, end_of_run, is_run_byte, is_word, truth_of}
use Rattle.cell_addr.specs.declared.axis.Axis.TheVariants.{Cols, Rows}
use Rattle.formula_tree.proofs.LettersDigits.{digit-no_letter}
use Rattle.formula_tree.proofs.Fronts.{after_while-append, take_while-append}
use Rattle.formula_parse.proofs.Whiles.{after_while-cons}
use Rattle.formula_parse.specs.Migrated.{begins_gap, is_gap_word, is_mark, is_new_row, is_unmarked, stays_alone}
use Rattle.formula_parse.specs.declared.migration.TheConstants.{OLD_ROWS}

-- a `_` somewhere
abbrev pub has_mark : List ℕ → Bool
has_mark xs = list_any is_mark xs

digit-unmarked : (c : ℕ) → is_digit c ≡ true → is_mark c ≡ false
digit-unmarked c h = let b = is_digit-bounds c h in grind (arith, nat_tests)

letter-unmarked : (c : ℕ) → is_ascii_alphabetic c ≡ true → is_mark c ≡ false
letter-unmarked c h = grind (arith, nat_tests)

none-marked : (p : ℕ → Bool) → ((c : ℕ) → p c ≡ true → is_mark c ≡ false) → (xs : List ℕ) → list_all p xs ≡ true → has_mark xs ≡ false
none-marked p f [] h = refl
none-marked p f (x ∷ xs) h =
    let parts = and_parts (p x) (list_all p xs) h in
    let rest = none-marked p f xs parts.1 in
    rw (f x parts.0, rest) refl

row_none : (xs : List ℕ) → has_mark xs ≡ true → row_of xs ≡ None
row_none xs m =
    let never : is_row xs ≡ false = false_from_ne_true (is_row xs) (λ h.
    both_ways (has_mark xs) (none-marked is_digit digit-unmarked xs (and_parts _ (list_all is_digit xs) (and_parts _ _ h).1).1) m) in
    cond-false (is_row xs) _ _ never

column_none : (xs : List ℕ) → has_mark xs ≡ true → column_of xs ≡ None
column_none xs m =
    let never : is_column xs ≡ false = false_from_ne_true (is_column xs) (λ h.
    both_ways (has_mark xs) (none-marked is_ascii_alphabetic letter-unmarked xs (and_parts _ (list_all is_ascii_alphabetic xs) h).1) m) in
    cond-false (is_column xs) _ _ never

-- a `_` stays behind what is left out in front
marked-behind : (c : ℕ) (cs : List ℕ) → is_mark c ≡ false → has_mark (c ∷ cs) ≡ true → has_mark cs ≡ true
marked-behind c cs never m = rw never at m

after-by : (p : ℕ → Bool) → p 95 ≡ false → (b : Bool) (c : ℕ) (cs : List ℕ) → p c ≡ b → (has_mark cs ≡ true → has_mark (after_while p cs) ≡ true) → has_mark (c ∷ cs) ≡ true
    → has_mark (cond b (after_while p cs) (c ∷ cs)) ≡ true
after-by p q true c cs e go m =
    let never : is_mark c ≡ false = false_from_ne_true (is_mark c) (λ h. both_ways (p c) (ap p (eqb-true c 95 h) ∙ q) e) in
    go (marked-behind c cs never m)
after-by p q false c cs e go m = m

marked-after : (p : ℕ → Bool) → p 95 ≡ false → (xs : List ℕ) → has_mark xs ≡ true → has_mark (after_while p xs) ≡ true
marked-after p q [] m = m
marked-after p q (c ∷ cs) m = ap has_mark (after_while-cons p c cs) ∙ after-by p q (p c) c cs refl (marked-after p q cs) m

dollar-by : (b : Bool) (c : ℕ) (cs : List ℕ) → (c == 36) ≡ b → has_mark (c ∷ cs) ≡ true → has_mark (cond b cs (c ∷ cs)) ≡ true
dollar-by true c cs e m = marked-behind c cs (ap is_mark (eqb-true c 36 e)) m
dollar-by false c cs e m = m

marked-dollar : (xs : List ℕ) → has_mark xs ≡ true → has_mark (after_dollar xs) ≡ true
marked-dollar [] m = m
marked-dollar (c ∷ cs) m = dollar-by (c == 36) c cs refl m

-- a run with a `_` is no address
pub corner_none : (rows : ℕ) (run : List ℕ) → has_mark run ≡ true → corner_by rows run ≡ None
corner_none rows run m =
    let v = after_dollar run in
    let digits = after_dollar (after_letters v) in
    let never = row_none digits (marked-dollar (after_letters v) (marked-after is_ascii_alphabetic refl v (marked-dollar run m))) in
    ap (λ r. option_and_then (address_by rows (begins_with 36 run) (begins_with 36 (after_letters v))) (option_zip r (column_of (letters v)))) never

-- and no end of a whole range
end-by : (rows : ℕ) (fixed b : Bool) (xs : List ℕ) → begins_with_any is_digit xs ≡ b → has_mark xs ≡ true → end_after rows fixed xs ≡ None
end-by rows fixed true xs e m = rw (e, row_none xs m) refl
end-by rows fixed false xs e m = rw (e, column_none xs m) refl

end_none : (rows : ℕ) (run : List ℕ) → has_mark run ≡ true → end_of_run rows run ≡ None
end_none rows run m = end-by rows (begins_with 36 run) (begins_with_any is_digit (after_dollar run)) (after_dollar run) refl (marked-dollar run m)

-- a run without a `_` is all in front of one
unmarked-by : (b : Bool) (c : ℕ) (cs : List ℕ) → is_mark c ≡ b → has_mark (c ∷ cs) ≡ false → is_unmarked c ≡ true
unmarked-by true c cs e m = let both : has_mark (c ∷ cs) ≡ true = rw e refl in absurd (both_ways (has_mark (c ∷ cs)) m both)
unmarked-by false c cs e m = rw e refl

unmarked-rest : (c : ℕ) (cs : List ℕ) → has_mark (c ∷ cs) ≡ false → has_mark cs ≡ false
unmarked-rest c cs m = false_from_ne_true (has_mark cs) (λ h. both_ways (has_mark (c ∷ cs)) m (with-mark (is_mark c) h))
  where
    with-mark : (b : Bool) → has_mark cs ≡ true → (b || has_mark cs) ≡ true
    with-mark true h = refl
    with-mark false h = h

all-unmarked : (xs : List ℕ) → has_mark xs ≡ false → list_all is_unmarked xs ≡ true
all-unmarked [] m = refl
all-unmarked (c ∷ cs) m = and_from (is_unmarked c) (list_all is_unmarked cs) (unmarked-by (is_mark c) c cs refl m) (all-unmarked cs (unmarked-rest c cs m))

front-whole : (run : List ℕ) → has_mark run ≡ false → take_while is_unmarked run ≡ run
front-whole run m = subst (λ x. take_while is_unmarked x ≡ run) (append-nil run) (take_while-append is_unmarked run [] (all-unmarked run m) refl)

behind-none : (run : List ℕ) → has_mark run ≡ false → after_while is_unmarked run ≡ []
behind-none run m = subst (λ x. after_while is_unmarked x ≡ []) (append-nil run) (after_while-append is_unmarked run [] (all-unmarked run m) refl)

gap-plain : (run : List ℕ) → has_mark run ≡ false → is_gap_word run ≡ (is_new_row (corner_of run) && true)
gap-plain run m =
    ap (λ x. is_new_row (corner_of x) && list_all is_mark (after_while is_unmarked run)) (front-whole run m)
    ∙ ap (λ y. is_new_row (corner_of run) && list_all is_mark y) (behind-none run m)

-- an address by the rows that a sheet had, and by those that it has
abbrev address : ℕ → ℕ → Bool → Bool → Address
address row col cf rf = record { row = row; col = col; row_fixed = rf; col_fixed = cf }

old-tests : (row col : ℕ) (cf rf a b d : Bool) → nat_lt row ROWS ≡ a → nat_lt row OLD_ROWS ≡ d → is_new_row (cond (a && b) (Some (address row col cf rf)) None) ≡ false
    → cond (d && b) (Some (address row col cf rf)) None ≡ cond (a && b) (Some (address row col cf rf)) None
old-tests row col cf rf true true true e g h = refl
old-tests row col cf rf true true false e g h = absurd (let never : nat_le OLD_ROWS row ≡ false = h in grind (arith, nat_tests, g, never))
old-tests row col cf rf true false true e g h = refl
old-tests row col cf rf true false false e g h = refl
old-tests row col cf rf false b true e g h = absurd (grind (arith, nat_tests, g, e))
old-tests row col cf rf false b false e g h = refl

old-address : (cf rf : Bool) (z : Option (ℕ × ℕ)) → is_new_row (option_and_then (address_by ROWS cf rf) z) ≡ false
    → option_and_then (address_by OLD_ROWS cf rf) z ≡ option_and_then (address_by ROWS cf rf) z
old-address cf rf None h = refl
old-address cf rf (Some (row, col)) h = old-tests row col cf rf (nat_lt row ROWS) (nat_lt col COLS) (nat_lt row OLD_ROWS) refl refl h

new-tests : (row col : ℕ) (cf rf a b d : Bool) → nat_lt row OLD_ROWS ≡ d → is_new_row (cond (a && b) (Some (address row col cf rf)) None) ≡ true
    → cond (d && b) (Some (address row col cf rf)) None ≡ None
new-tests row col cf rf true true true g h = absurd (let new : nat_le OLD_ROWS row ≡ true = h in grind (arith, nat_tests, g, new))
new-tests row col cf rf true true false g h = refl
new-tests row col cf rf true false d g h = cc
new-tests row col cf rf false b d g h = cc

new-address : (cf rf : Bool) (z : Option (ℕ × ℕ)) → is_new_row (option_and_then (address_by ROWS cf rf) z) ≡ true → option_and_then (address_by OLD_ROWS cf rf) z ≡ None
new-address cf rf None h = refl
new-address cf rf (Some (row, col)) h = new-tests row col cf rf (nat_lt row ROWS) (nat_lt col COLS) (nat_lt row OLD_ROWS) refl h

-- the two parts of an address that a run has, if it is one
abbrev parts_of : List ℕ → Option (ℕ × ℕ)
parts_of run = option_zip (row_of (after_dollar (after_letters (after_dollar run)))) (column_of (letters (after_dollar run)))

and-second : (b : Bool) → (b && true) ≡ b
and-second true = refl
and-second false = refl

plain-by : (m : Bool) (run : List ℕ) → has_mark run ≡ m → is_gap_word run ≡ false → corner_by OLD_ROWS run ≡ corner_of run
plain-by true run e h = corner_none OLD_ROWS run e ∙ sym (corner_none ROWS run e)
plain-by false run e h =
    old-address (begins_with 36 run) (begins_with 36 (after_letters (after_dollar run))) (parts_of run)
    (sym (and-second (is_new_row (corner_of run))) ∙ sym (gap-plain run e) ∙ h)

-- a run that is no gap word is the same address by both
pub plain_corner : (run : List ℕ) → is_gap_word run ≡ false → corner_by OLD_ROWS run ≡ corner_of run
plain_corner run h = plain-by (has_mark run) run refl h

gap-by : (m : Bool) (run : List ℕ) → has_mark run ≡ m → is_gap_word run ≡ true → corner_by OLD_ROWS run ≡ None
gap-by true run e h = corner_none OLD_ROWS run e
gap-by false run e h =
    new-address (begins_with 36 run) (begins_with 36 (after_letters (after_dollar run))) (parts_of run)
    (sym (and-second (is_new_row (corner_of run))) ∙ sym (gap-plain run e) ∙ h)

-- a gap word was no address
pub gap_corner : (run : List ℕ) → is_gap_word run ≡ true → corner_by OLD_ROWS run ≡ None
gap_corner run h = gap-by (has_mark run) run refl h

-- with one `_` more a run is no address
marked-last : (w : List ℕ) → has_mark (w ++ 95 ∷ []) ≡ true
marked-last [] = refl
marked-last (c ∷ cs) = or-second (is_mark c) (has_mark (cs ++ 95 ∷ [])) (marked-last cs)
  where
    or-second : (a b : Bool) → b ≡ true → (a || b) ≡ true
    or-second true b h = refl
    or-second false b h = h

pub marked_corner : (rows : ℕ) (w : List ℕ) → corner_by rows (w ++ 95 ∷ []) ≡ None
marked_corner rows w = corner_none rows (w ++ 95 ∷ []) (marked-last w)

-- letters alone are no address
letters_corner : (rows : ℕ) (run : List ℕ) → list_all is_ascii_alphabetic run ≡ true → corner_by rows run ≡ None
letters_corner rows [] h = refl
letters_corner rows (c ∷ cs) h =
    let parts = and_parts (is_ascii_alphabetic c) (list_all is_ascii_alphabetic cs) h in
    let no_dollar : (c == 36) ≡ false = let l = parts.0 in grind (arith, nat_tests, l) in
    let v : after_dollar (c ∷ cs) ≡ c ∷ cs = rw no_dollar refl in
    let none : after_letters (c ∷ cs) ≡ [] = subst (λ x. after_letters x ≡ []) (append-nil (c ∷ cs)) (after_while-append is_ascii_alphabetic (c ∷ cs) [] h refl) in
    rw (v, none) refl

-- what is TRUE or FALSE is letters alone
lowercase-letter : (c x : ℕ) → is_ascii_alphabetic x ≡ true → to_ascii_lowercase c ≡ to_ascii_lowercase x → is_ascii_alphabetic c ≡ true
lowercase-letter c x h e = grind (arith, nat_tests)

letters-folded : (word cs : List ℕ) → list_all is_ascii_alphabetic word ≡ true → folded cs ≡ folded word → list_all is_ascii_alphabetic cs ≡ true
letters-folded word [] h e = refl
letters-folded [] (c ∷ cs) h e = cc
letters-folded (x ∷ xs) (c ∷ cs) h e =
    let parts = and_parts (is_ascii_alphabetic x) (list_all is_ascii_alphabetic xs) h in
    let first : to_ascii_lowercase c ≡ to_ascii_lowercase x = cc in
    let rest : folded cs ≡ folded xs = cc in
    and_from (is_ascii_alphabetic c) (list_all is_ascii_alphabetic cs) (lowercase-letter c x parts.0 first) (letters-folded xs cs parts.1 rest)

no-truth-by : (run : List ℕ) (b : Bool) → (list_all is_ascii_alphabetic run ≡ true → ⊥) → spells run (truth_text b) ≡ false
no-truth-by run true never = false_from_ne_true _ (λ h. never (letters-folded (truth_text true) run refl ((bytes_eq-Decides (folded run) (folded (truth_text true))).0 h)))
no-truth-by run false never = false_from_ne_true _ (λ h. never (letters-folded (truth_text false) run refl ((bytes_eq-Decides (folded run) (folded (truth_text false))).0 h)))

no-truth : (run : List ℕ) → (list_all is_ascii_alphabetic run ≡ true → ⊥) → truth_of run ≡ None
no-truth run never = rw (no-truth-by run true never, no-truth-by run false never) refl

pub marked_truth : (w : List ℕ) → truth_of (w ++ 95 ∷ []) ≡ None
marked_truth w = no-truth (w ++ 95 ∷ []) (λ h. both_ways (has_mark (w ++ 95 ∷ [])) (none-marked is_ascii_alphabetic letter-unmarked (w ++ 95 ∷ []) h) (marked-last w))

gap-letters : (m : Bool) (run : List ℕ) → has_mark run ≡ m → is_gap_word run ≡ true → list_all is_ascii_alphabetic run ≡ true → ⊥
gap-letters true run e h all = both_ways (has_mark run) (none-marked is_ascii_alphabetic letter-unmarked run all) e
gap-letters false run e h all =
    let new : is_new_row (corner_of run) ≡ true = sym (and-second (is_new_row (corner_of run))) ∙ sym (gap-plain run e) ∙ h in
    both_ways (is_new_row (corner_of run)) (ap is_new_row (letters_corner ROWS run all)) new

pub gap_truth : (run : List ℕ) → is_gap_word run ≡ true → truth_of run ≡ None
gap_truth run h = no-truth run (gap-letters (has_mark run) run refl h)

-- with one `_` more a run has the form of a name exactly where it had it
pub marked_word : (c : ℕ) (u : List ℕ) → is_word ((c ∷ u) ++ 95 ∷ []) ≡ is_word (c ∷ u)
marked_word c u = ap (λ b. (is_ascii_alphabetic c || c == 95) && b) (list_all-append (λ d. is_ascii_alphanumeric d || (d == 95 || d == 46)) u (95 ∷ []) ∙ and-second (list_all (λ d. is_ascii_alphanumeric d || (d == 95 || d == 46)) u))

-- an end of a whole range by the rows that a sheet had is one by those that it has, and no gap word
row-end : (rows : ℕ) (fixed : Bool) (line : ℕ) (a : End) → end_at Rows fixed OLD_ROWS line ≡ Some a → end_at Rows fixed ROWS line ≡ Some a
row-end rows fixed line a e = by (nat_lt line OLD_ROWS) refl e
  where
    by : (b : Bool) → nat_lt line OLD_ROWS ≡ b → cond b (Some (record { axis = Rows; line = line; fixed = fixed })) None ≡ Some a → end_at Rows fixed ROWS line ≡ Some a
    by true g h = let more : nat_lt line ROWS ≡ true = grind (arith, nat_tests, g) in rw more h
    by false g h = cc

old-end-by : (fixed b : Bool) (xs : List ℕ) (row : Option ℕ) (a : End) → begins_with_any is_digit xs ≡ b → row_of xs ≡ row → end_after OLD_ROWS fixed xs ≡ Some a → end_after ROWS fixed xs ≡ Some a
old-end-by fixed true xs None a e r h = let none : end_after OLD_ROWS fixed xs ≡ None = rw (e, r) refl in cc
old-end-by fixed true xs (Some line) a e r h =
    let old : end_at Rows fixed OLD_ROWS line ≡ Some a = rw (e, r) at h in
    rw (e, r) (row-end 0 fixed line a old)
old-end-by fixed false xs row a e r h =
    let old : option_and_then (end_at Cols fixed COLS) (column_of xs) ≡ Some a = rw e at h in
    rw e old

pub old_end : (run : List ℕ) (a : End) → end_of_run OLD_ROWS run ≡ Some a → end_of_run ROWS run ≡ Some a
old_end run a h = old-end-by (begins_with 36 run) (begins_with_any is_digit (after_dollar run)) (after_dollar run) (row_of (after_dollar run)) a refl refl h

zip-none : (x : Option ℕ) → option_zip {U = ℕ} x None ≡ None
zip-none None = refl
zip-none (Some n) = refl

digits-first : (v : List ℕ) → begins_with_any is_digit v ≡ true → letters v ≡ []
digits-first [] h = refl
digits-first (c ∷ cs) h = rw (digit-no_letter c h) refl

column-by : (b : Bool) (v : List ℕ) (n k : ℕ) → is_column v ≡ b → cond b (Some n) None ≡ Some k → list_all is_ascii_alphabetic v ≡ true
column-by true v n k e h = (and_parts _ (list_all is_ascii_alphabetic v) e).1
column-by false v n k e h = cc

column-some : (v : List ℕ) (o : Option ℕ) (a : End) (fixed : Bool) → column_of v ≡ o → option_and_then (end_at Cols fixed COLS) o ≡ Some a → list_all is_ascii_alphabetic v ≡ true
column-some v None a fixed e h = cc
column-some v (Some k) a fixed e h = column-by (is_column v) v _ k refl e

letters-behind : (v : List ℕ) → list_all is_ascii_alphabetic v ≡ true → after_letters v ≡ []
letters-behind v h = subst (λ x. after_letters x ≡ []) (append-nil v) (after_while-append is_ascii_alphabetic v [] h refl)

end-corner : (b : Bool) (run : List ℕ) (a : End) → begins_with_any is_digit (after_dollar run) ≡ b → end_of_run OLD_ROWS run ≡ Some a → corner_of run ≡ None
end-corner true run a e h =
    let v = after_dollar run in
    let none : column_of (letters v) ≡ None = ap column_of (digits-first v e) in
    let zip : parts_of run ≡ None = ap (option_zip (row_of (after_dollar (after_letters v)))) none ∙ zip-none (row_of (after_dollar (after_letters v))) in
    ap (option_and_then (address_by ROWS (begins_with 36 run) (begins_with 36 (after_letters v)))) zip
end-corner false run a e h =
    let v = after_dollar run in
    let column : option_and_then (end_at Cols (begins_with 36 run) COLS) (column_of v) ≡ Some a = rw e at h in
    let all = column-some v (column_of v) a (begins_with 36 run) refl column in
    ap (λ r. option_and_then (address_by ROWS (begins_with 36 run) (begins_with 36 r)) (option_zip (row_of (after_dollar r)) (column_of (letters v)))) (letters-behind v all)

end-gap : (m : Bool) (run : List ℕ) (a : End) → has_mark run ≡ m → end_of_run OLD_ROWS run ≡ Some a → is_gap_word run ≡ true → ⊥
end-gap true run a e h g = let none = end_none OLD_ROWS run e in cc
end-gap false run a e h g =
    let new : is_new_row (corner_of run) ≡ true = sym (and-second (is_new_row (corner_of run))) ∙ sym (gap-plain run e) ∙ g in
    let none = end-corner (begins_with_any is_digit (after_dollar run)) run a refl h in
    both_ways (is_new_row (corner_of run)) (ap is_new_row none) new

pub old_end-no_gap : (run : List ℕ) (a : End) → end_of_run OLD_ROWS run ≡ Some a → is_gap_word run ≡ false
old_end-no_gap run a h = false_from_ne_true (is_gap_word run) (end-gap (has_mark run) run a refl h)

-- what doesn't begin as a run does is no gap word
no-start-by : (b : Bool) (c : ℕ) (cs : List ℕ) → is_unmarked c ≡ b → begins_run c ≡ false → is_new_row (corner_of (cond b (c ∷ take_while is_unmarked cs) [])) ≡ false
no-start-by false c cs e h = refl
no-start-by true c cs e h =
    let no_letter : is_ascii_alphabetic c ≡ false = grind (arith, nat_tests, h) in
    let no_dollar : (c == 36) ≡ false = grind (arith, nat_tests, h) in
    let u = take_while is_unmarked cs in
    let v : after_dollar (c ∷ u) ≡ c ∷ u = rw no_dollar refl in
    let none : letters (c ∷ u) ≡ [] = rw no_letter refl in
    let column : column_of (letters (after_dollar (c ∷ u))) ≡ None = ap (λ x. column_of (letters x)) v ∙ ap column_of none in
    let zip : parts_of (c ∷ u) ≡ None = ap (option_zip (row_of (after_dollar (after_letters (after_dollar (c ∷ u)))))) column ∙ zip-none (row_of (after_dollar (after_letters (after_dollar (c ∷ u))))) in
    ap (λ z. is_new_row (option_and_then (address_by ROWS (begins_with 36 (c ∷ u)) (begins_with 36 (after_letters (after_dollar (c ∷ u))))) z)) zip

no-start : (c : ℕ) (cs : List ℕ) → begins_run c ≡ false → is_gap_word (c ∷ cs) ≡ false
no-start c cs h =
    ap (λ b. b && list_all is_mark (after_while is_unmarked (c ∷ cs)))
    (ap (λ x. is_new_row (corner_of x)) (take_while-cons is_unmarked c cs) ∙ no-start-by (is_unmarked c) c cs refl h)

no-run-by : (b : Bool) (c : ℕ) (cs : List ℕ) → is_run_byte c ≡ b → begins_run c ≡ false → is_gap_word (cond b (c ∷ take_while is_run_byte cs) []) ≡ false
no-run-by true c cs e h = no-start c (take_while is_run_byte cs) h
no-run-by false c cs e h = refl

pub no_run-no_gap : (c : ℕ) (cs : List ℕ) → begins_run c ≡ false → begins_gap (c ∷ cs) ≡ false
no_run-no_gap c cs h =
    ap (λ b. b && stays_alone (after_while is_run_byte (c ∷ cs)))
    (ap is_gap_word (take_while-cons is_run_byte c cs) ∙ no-run-by (is_run_byte c) c cs refl h)
