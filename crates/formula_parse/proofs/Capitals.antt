-- Words that differ only in case are gap words together, so that two names migrate alike only where they are one. Serves
-- the migration of names.
use Rattle.std.proofs.Common.{◌≡◌, sym, ◌∙◌, ap, refl, arith, ℕ, suc, ◌+◌, ◌-◌, ◌*◌, Bool, true, false, ◌&&◌, ◌==◌, cond, List, [], ◌∷◌, ◌++◌, length, None}
use Rattle.std.specs.Option.{option_and_then, option_zip}
use Rattle.std.specs.List.{list_all, take_while}
use Rattle.std.specs.Char.{is_ascii_alphabetic, to_ascii_uppercase}
use Rattle.std.proofs.lemmas.Bool.{both_ways, cond-false}
use Rattle.std.proofs.lemmas.Bool.Decides.{nat_tests}
use Rattle.std.proofs.lemmas.List.Folds.{list_all-append}
use Rattle.std.proofs.lemmas.List.Sums.{take_while-cons}
use Rattle.digits.specs.Digits.{is_digit}
use Rattle.cell_addr.specs.declared.place.TheConstants.{ROWS}
use Rattle.cell_addr.specs.Address.{after_letters, column_of, is_row, letters, letters_number_from, row_of}
use Rattle.cell_addr.specs.Text.{capitals}
use Rattle.formula_tree.specs.Run.{address_by, after_dollar, after_while, begins_with, corner_of}
use Rattle.formula_parse.specs.Migrated.{IsFromOne, is_gap_word, is_mark, is_new_row, is_unmarked, migrated_name}
use Rattle.formula_parse.proofs.Whiles.{after_while-cons}

-- a test that letters of both cases pass alike, over a text in capitals
abbrev Uncased : (ℕ → Bool) → Type 0
Uncased p = (c : ℕ) → p (to_ascii_uppercase c) ≡ p c

all-capitals : (p : ℕ → Bool) → Uncased p → (xs : List ℕ) → list_all p (capitals xs) ≡ list_all p xs
all-capitals p u [] = refl
all-capitals p u (c ∷ cs) = rw (u c, all-capitals p u cs) refl

front-capitals-by : (b : Bool) (c : ℕ) (xs ys : List ℕ) → ys ≡ capitals xs → cond b (to_ascii_uppercase c ∷ ys) [] ≡ capitals (cond b (c ∷ xs) [])
front-capitals-by true c xs ys e = ap (λ r. to_ascii_uppercase c ∷ r) e
front-capitals-by false c xs ys e = refl

front-capitals : (p : ℕ → Bool) → Uncased p → (xs : List ℕ) → take_while p (capitals xs) ≡ capitals (take_while p xs)
front-capitals p u [] = refl
front-capitals p u (c ∷ cs) =
    take_while-cons p (to_ascii_uppercase c) (capitals cs)
    ∙ ap (λ b. cond b (to_ascii_uppercase c ∷ take_while p (capitals cs)) []) (u c)
    ∙ front-capitals-by (p c) c (take_while p cs) (take_while p (capitals cs)) (front-capitals p u cs)
    ∙ ap capitals (sym (take_while-cons p c cs))

behind-capitals-by : (b : Bool) (c : ℕ) (cs xs ys : List ℕ) → ys ≡ capitals xs → cond b ys (to_ascii_uppercase c ∷ capitals cs) ≡ capitals (cond b xs (c ∷ cs))
behind-capitals-by true c cs xs ys e = e
behind-capitals-by false c cs xs ys e = refl

behind-capitals : (p : ℕ → Bool) → Uncased p → (xs : List ℕ) → after_while p (capitals xs) ≡ capitals (after_while p xs)
behind-capitals p u [] = refl
behind-capitals p u (c ∷ cs) =
    after_while-cons p (to_ascii_uppercase c) (capitals cs)
    ∙ ap (λ b. cond b (after_while p (capitals cs)) (to_ascii_uppercase c ∷ capitals cs)) (u c)
    ∙ behind-capitals-by (p c) c cs (after_while p cs) (after_while p (capitals cs)) (behind-capitals p u cs)
    ∙ ap capitals (sym (after_while-cons p c cs))

letter-uncased : Uncased is_ascii_alphabetic
letter-uncased c = grind (arith, nat_tests)

digit-uncased : Uncased is_digit
digit-uncased c = grind (arith, nat_tests)

unmarked-uncased : Uncased is_unmarked
unmarked-uncased c = grind (arith, nat_tests)

mark-uncased : Uncased is_mark
mark-uncased c = grind (arith, nat_tests)

dollar-uncased : Uncased (λ c. c == 36)
dollar-uncased c = grind (arith, nat_tests)

upper-twice : (c : ℕ) → to_ascii_uppercase (to_ascii_uppercase c) ≡ to_ascii_uppercase c
upper-twice c = grind (arith, nat_tests)

length-capitals : (xs : List ℕ) → length (capitals xs) ≡ length xs
length-capitals [] = refl
length-capitals (c ∷ cs) = ap suc (length-capitals cs)

begins-capitals : (xs : List ℕ) → begins_with 36 (capitals xs) ≡ begins_with 36 xs
begins-capitals [] = refl
begins-capitals (c ∷ cs) = dollar-uncased c

dollar-by : (b : Bool) (c : ℕ) (cs : List ℕ) → cond b (capitals cs) (to_ascii_uppercase c ∷ capitals cs) ≡ capitals (cond b cs (c ∷ cs))
dollar-by true c cs = refl
dollar-by false c cs = refl

dollar-capitals : (xs : List ℕ) → after_dollar (capitals xs) ≡ capitals (after_dollar xs)
dollar-capitals [] = refl
dollar-capitals (c ∷ cs) = ap (λ b. cond b (capitals cs) (to_ascii_uppercase c ∷ capitals cs)) (dollar-uncased c) ∙ dollar-by (c == 36) c cs

number-capitals : (n : ℕ) (xs : List ℕ) → letters_number_from n (capitals xs) ≡ letters_number_from n xs
number-capitals n [] = refl
number-capitals n (c ∷ cs) =
    ap (λ u. letters_number_from (26 * n + (u - 64)) (capitals cs)) (upper-twice c)
    ∙ number-capitals (26 * n + (to_ascii_uppercase c - 64)) cs

column-capitals : (xs : List ℕ) → column_of (capitals xs) ≡ column_of xs
column-capitals xs = rw (length-capitals xs, all-capitals is_ascii_alphabetic letter-uncased xs, number-capitals 0 xs) refl

-- digits have no case
digits-stay : (xs : List ℕ) → list_all is_digit xs ≡ true → capitals xs ≡ xs
digits-stay [] h = refl
digits-stay (c ∷ cs) h = by (is_digit c) refl h (digits-stay cs)
  where
    by : (b : Bool) → is_digit c ≡ b → (b && list_all is_digit cs) ≡ true → (list_all is_digit cs ≡ true → capitals cs ≡ cs) → capitals (c ∷ cs) ≡ c ∷ cs
    by true d h go = let same : to_ascii_uppercase c ≡ c = grind (arith, nat_tests, d) in rw (same, go h) refl
    by false d h go = cc

and-last : (a b c : Bool) → c ≡ false → (a && (b && c)) ≡ false
and-last true true c h = h
and-last true false c h = refl
and-last false b c h = refl

none-row : (xs : List ℕ) → list_all is_digit xs ≡ false → row_of xs ≡ None
none-row xs h = cond-false (is_row xs) _ _ (and-last _ _ (list_all is_digit xs) h)

row-capitals-by : (b : Bool) (xs : List ℕ) → list_all is_digit xs ≡ b → row_of (capitals xs) ≡ row_of xs
row-capitals-by true xs e = ap row_of (digits-stay xs e)
row-capitals-by false xs e = none-row (capitals xs) (all-capitals is_digit digit-uncased xs ∙ e) ∙ sym (none-row xs e)

row-capitals : (xs : List ℕ) → row_of (capitals xs) ≡ row_of xs
row-capitals xs = row-capitals-by (list_all is_digit xs) xs refl

-- an address in capitals is the same address
corner-capitals : (run : List ℕ) → corner_of (capitals run) ≡ corner_of run
corner-capitals run =
    let v = after_dollar run in
    let front : after_dollar (capitals run) ≡ capitals v = dollar-capitals run in
    let word : letters (after_dollar (capitals run)) ≡ capitals (letters v) = ap letters front ∙ front-capitals is_ascii_alphabetic letter-uncased v in
    let behind : after_letters (after_dollar (capitals run)) ≡ capitals (after_letters v) = ap after_letters front ∙ behind-capitals is_ascii_alphabetic letter-uncased v in
    let column : column_of (letters (after_dollar (capitals run))) ≡ column_of (letters v) = ap column_of word ∙ column-capitals (letters v) in
    let row : row_of (after_dollar (after_letters (after_dollar (capitals run)))) ≡ row_of (after_dollar (after_letters v)) =
    ap (λ x. row_of (after_dollar x)) behind ∙ ap row_of (dollar-capitals (after_letters v)) ∙ row-capitals (after_dollar (after_letters v)) in
    let fixed : begins_with 36 (after_letters (after_dollar (capitals run))) ≡ begins_with 36 (after_letters v) = ap (begins_with 36) behind ∙ begins-capitals (after_letters v) in
    ap (λ b. option_and_then (address_by ROWS b (begins_with 36 (after_letters (after_dollar (capitals run)))))
    (option_zip (row_of (after_dollar (after_letters (after_dollar (capitals run))))) (column_of (letters (after_dollar (capitals run)))))) (begins-capitals run)
    ∙ ap (λ b. option_and_then (address_by ROWS (begins_with 36 run) b)
    (option_zip (row_of (after_dollar (after_letters (after_dollar (capitals run))))) (column_of (letters (after_dollar (capitals run)))))) fixed
    ∙ ap (λ r. option_and_then (address_by ROWS (begins_with 36 run) (begins_with 36 (after_letters v))) (option_zip r (column_of (letters (after_dollar (capitals run)))))) row
    ∙ ap (λ k. option_and_then (address_by ROWS (begins_with 36 run) (begins_with 36 (after_letters v))) (option_zip (row_of (after_dollar (after_letters v))) k)) column

gap-capitals : (w : List ℕ) → is_gap_word (capitals w) ≡ is_gap_word w
gap-capitals w =
    ap (λ x. is_new_row (corner_of x) && list_all is_mark (after_while is_unmarked (capitals w))) (front-capitals is_unmarked unmarked-uncased w)
    ∙ ap (λ a. is_new_row a && list_all is_mark (after_while is_unmarked (capitals w))) (corner-capitals (take_while is_unmarked w))
    ∙ ap (λ y. is_new_row (corner_of (take_while is_unmarked w)) && list_all is_mark y) (behind-capitals is_unmarked unmarked-uncased w)
    ∙ ap (λ b. is_new_row (corner_of (take_while is_unmarked w)) && b) (all-capitals is_mark mark-uncased (after_while is_unmarked w))

gap-alike : (v w : List ℕ) → capitals v ≡ capitals w → is_gap_word v ≡ is_gap_word w
gap-alike v w e = sym (gap-capitals v) ∙ ap is_gap_word e ∙ gap-capitals w

-- a word with one `_` more is a gap word where it was one
marked-front-by : (b : Bool) (c : ℕ) (xs ys : List ℕ) → xs ≡ ys → cond b (c ∷ xs) [] ≡ cond b (c ∷ ys) []
marked-front-by b c xs ys e = ap (λ r. cond b (c ∷ r) []) e

marked-front : (w : List ℕ) → take_while is_unmarked (w ++ 95 ∷ []) ≡ take_while is_unmarked w
marked-front [] = refl
marked-front (c ∷ cs) =
    take_while-cons is_unmarked c (cs ++ 95 ∷ []) ∙ marked-front-by (is_unmarked c) c _ _ (marked-front cs) ∙ sym (take_while-cons is_unmarked c cs)

marked-behind-by : (b : Bool) (c : ℕ) (cs xs ys : List ℕ) → xs ≡ ys ++ 95 ∷ [] → cond b xs (c ∷ (cs ++ 95 ∷ [])) ≡ cond b ys (c ∷ cs) ++ 95 ∷ []
marked-behind-by true c cs xs ys e = e
marked-behind-by false c cs xs ys e = refl

marked-behind : (w : List ℕ) → after_while is_unmarked (w ++ 95 ∷ []) ≡ after_while is_unmarked w ++ 95 ∷ []
marked-behind [] = refl
marked-behind (c ∷ cs) =
    after_while-cons is_unmarked c (cs ++ 95 ∷ []) ∙ marked-behind-by (is_unmarked c) c cs _ _ (marked-behind cs)
    ∙ ap (λ x. x ++ 95 ∷ []) (sym (after_while-cons is_unmarked c cs))

and-true : (b : Bool) → (b && true) ≡ b
and-true true = refl
and-true false = refl

gap-marked : (w : List ℕ) → is_gap_word (w ++ 95 ∷ []) ≡ is_gap_word w
gap-marked w =
    ap (λ x. is_new_row (corner_of x) && list_all is_mark (after_while is_unmarked (w ++ 95 ∷ []))) (marked-front w)
    ∙ ap (λ y. is_new_row (corner_of (take_while is_unmarked w)) && list_all is_mark y) (marked-behind w)
    ∙ ap (λ b. is_new_row (corner_of (take_while is_unmarked w)) && b) (list_all-append is_mark (after_while is_unmarked w) (95 ∷ []) ∙ and-true (list_all is_mark (after_while is_unmarked w)))

capitals-append : (xs ys : List ℕ) → capitals (xs ++ ys) ≡ capitals xs ++ capitals ys
capitals-append [] ys = refl
capitals-append (c ∷ cs) ys = ap (λ r. to_ascii_uppercase c ∷ r) (capitals-append cs ys)

-- what ends alike began alike
same-front : (xs ys : List ℕ) (c : ℕ) → xs ++ c ∷ [] ≡ ys ++ c ∷ [] → xs ≡ ys
same-front [] [] c e = refl
same-front [] (y ∷ []) c e = cc
same-front [] (y ∷ z ∷ ys) c e = cc
same-front (x ∷ []) [] c e = cc
same-front (x ∷ z ∷ xs) [] c e = cc
same-front (x ∷ xs) (y ∷ ys) c e =
    let first : x ≡ y = cc in
    let rest : xs ++ c ∷ [] ≡ ys ++ c ∷ [] = cc in
    rw (first, same-front xs ys c rest) refl

-- a gap word with one `_` more is no word that stays
apart-by : (v w : List ℕ) → is_gap_word v ≡ true → is_gap_word w ≡ false → capitals (v ++ 95 ∷ []) ≡ capitals w → ⊥
apart-by v w g h e = both_ways (is_gap_word w) h (sym (gap-alike (v ++ 95 ∷ []) w e) ∙ gap-marked v ∙ g)

from-one : (a b : Bool) (other old : List ℕ) → is_gap_word other ≡ a → is_gap_word old ≡ b
    → capitals (cond a (other ++ 95 ∷ []) other) ≡ capitals (cond b (old ++ 95 ∷ []) old) → capitals other ≡ capitals old
from-one true true other old g h e = same-front (capitals other) (capitals old) 95 (sym (capitals-append other (95 ∷ [])) ∙ e ∙ capitals-append old (95 ∷ []))
from-one true false other old g h e = absurd (apart-by other old g h e)
from-one false true other old g h e = absurd (apart-by old other h g (sym e))
from-one false false other old g h e = e

pub name-from_one : (old new : List ℕ) → new ≡ migrated_name old → IsFromOne old new
name-from_one old new is other e = from-one (is_gap_word other) (is_gap_word old) other old refl refl (e ∙ ap capitals is)
