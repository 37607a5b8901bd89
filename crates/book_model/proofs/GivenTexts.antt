-- The texts that give a number, a truth value or a text say just that. Serves the law of given texts, and the calls that give a
-- cell one of these.
use Rattle.std.proofs.Common.{◌≡◌, ◌≢◌, ◌∙◌, sym, ap, subst, refl, arith, ℕ, suc, ℤ, pos, negsuc, ◌+◌, ◌<◌, ◌≤◌, ◌&&◌, ◌/◌, ◌%◌, ◌^◌, ◌==◌, nat_lt, Bool, true, false, cond, List, [], ◌∷◌, length, take, Result, Ok, Err, eqb-true}
use Rattle.std.proofs.lemmas.Bool.Decides.{nat_tests}
use Rattle.std.proofs.lemmas.Fmt.{length-decimal-le}
use Rattle.std.proofs.lemmas.List.{length-append}
use Rattle.std.proofs.lemmas.Slice.Eq.{bytes_eq-Decides}
use Rattle.std.specs.Fmt.{decimal}
use Rattle.std.specs.List.{list_all, position_or_len}
use Rattle.cell_value.specs.Scalar.{truth_text}
use Rattle.digits.specs.Digits.{is_digit}
use Rattle.fix_num.specs.Number.{IsInside, signed, within}
use Rattle.fix_num.specs.Text.{after_sign, are_parts, decimals, decimals_of, fraction_of, has_minus, is_point, magnitude, number_of, text_of, unsigned_text, whole}
use Rattle.fix_num.specs.declared.error.NumError.{NumError}
use Rattle.fix_num.specs.declared.error.NumError.TheVariants.{NotANumber}
use Rattle.fix_num.proofs.PlainTexts.{number_of-text_of}
use Rattle.fix_num.proofs.SpelledDecimals.{length-decimals_of}
use Rattle.book_model.specs.Content.{content_of, is_kept, plain_content, text_given}
use Rattle.book_model.specs.declared.content.ContentText.{ContentText}
use Rattle.book_model.specs.declared.content.ContentText.TheVariants as said

are_none : (ws ds : List ℕ) → list_all is_digit ws ≡ false → are_parts ws ds ≡ false
are_none ws ds h = rw h refl

-- a text is no number where something else than digits stands in front of its point
unspelt : (text : List ℕ) → list_all is_digit (whole (after_sign text)) ≡ false → number_of text ≡ Err NotANumber
unspelt text h =
    ap (λ b. cond b (within (signed (has_minus text) (magnitude (after_sign text)))) (Err NotANumber)) (are_none (whole (after_sign text)) (decimals (after_sign text)) h)

other_first : (c k : ℕ) (cs : List ℕ) → is_digit c ≡ false → list_all is_digit (take (1 + k) (c ∷ cs)) ≡ false
other_first c k cs h =
    let e : 1 + k ≡ suc k = omega arith in
    ap (λ n. list_all is_digit (take n (c ∷ cs))) e ∙ ap (λ b. b && list_all is_digit (take k cs)) h

-- as an `=` or an apostrophe does, or nothing
formula_unspelt : (cs : List ℕ) → number_of (61 ∷ cs) ≡ Err NotANumber
formula_unspelt cs = unspelt (61 ∷ cs) (other_first 61 (position_or_len is_point cs) cs refl)

apostrophe_unspelt : (cs : List ℕ) → number_of (39 ∷ cs) ≡ Err NotANumber
apostrophe_unspelt cs = unspelt (39 ∷ cs) (other_first 39 (position_or_len is_point cs) cs refl)

nothing_unspelt : number_of [] ≡ Err NotANumber
nothing_unspelt = refl

never : {X : Type 0} (m : ℤ) → ◌≡◌ {A = Result ℤ NumError} (Err NotANumber) (Ok m) → X
never m e = cc

-- a text that spells a number says it
spelt_number : (text : List ℕ) (m : ℤ) → number_of text ≡ Ok m → content_of text ≡ said.Number m
spelt_number [] m e = never m (sym nothing_unspelt ∙ e)
spelt_number (c ∷ cs) m e = go (c == 61) refl
  where
    go : (b : Bool) → (c == 61) ≡ b → cond b (said.Formula (c ∷ cs)) (plain_content (number_of (c ∷ cs)) (c ∷ cs)) ≡ said.Number m
    go true is = never m (sym (formula_unspelt cs) ∙ ap (λ x. number_of (x ∷ cs)) (sym (eqb-true c 61 is)) ∙ e)
    go false is = ap (λ r. plain_content r (c ∷ cs)) e

-- the text of a number says the number
pub number_said : (m : ℤ) → IsInside m → content_of (text_of m) ≡ said.Number m
number_said m inside = spelt_number (text_of m) m (number_of-text_of m inside)

-- the text of a truth value says it
pub truth_said : (b : Bool) → content_of (truth_text b) ≡ said.Truth b
truth_said true = refl
truth_said false = refl

-- what stands behind an apostrophe is a text
behind_apostrophe : (w : List ℕ) → content_of (39 ∷ w) ≡ said.Text w
behind_apostrophe w = ap (λ r. plain_content r (39 ∷ w)) (apostrophe_unspelt w)

-- the text that gives a text says it
pub text_said : (w : List ℕ) → content_of (text_given w) ≡ said.Text w
text_said w = go (is_kept (content_of w) w) refl
  where
    kept : (g : ContentText) → content_of w ≡ g → is_kept g w ≡ true → content_of w ≡ said.Text w
    kept said.Clear is e = cc
    kept (said.Formula t) is e = cc
    kept (said.Number m) is e = cc
    kept (said.Truth b) is e = cc
    kept (said.Text t) is e = is ∙ ap said.Text ((bytes_eq-Decides t w).0 e)

    go : (b : Bool) → is_kept (content_of w) w ≡ b → content_of (cond b w (39 ∷ w)) ≡ said.Text w
    go true e = kept (content_of w) refl e
    go false e = behind_apostrophe w

not_above : (n most : ℕ) → n ≤ most → nat_lt most n ≡ false
not_above n most h = grind (arith, nat_tests)

whole_below : (n : ℕ) → n < 1000000000000000000 → n / 1000000 < 10 ^ 12
whole_below n h = omega arith

whole_printed : (n : ℕ) → n < 1000000000000000000 → n / 1000000 < 2 ^ 64
whole_printed n h = omega arith

rest_below : (n : ℕ) → n % 1000000 < 1000000
rest_below n = omega arith

fraction_short : (f : ℕ) → f < 1000000 → length (fraction_of f) ≤ 7
fraction_short f h = go (f == 0) (length-decimals_of f h)
  where
    go : (b : Bool) → length (decimals_of 6 f) ≤ 6 → length (cond b [] (46 ∷ decimals_of 6 f)) ≤ 7
    go true l = omega arith
    go false l = omega (arith, l)

unsigned_short : (n : ℕ) → n < 1000000000000000000 → length (unsigned_text n) ≤ 19
unsigned_short n h =
    let front = length-decimal-le 12 (n / 1000000) (omega arith) (whole_below n h) (whole_printed n h) in
    let rest = fraction_short (n % 1000000) (rest_below n) in
    let both = length-append (decimal (n / 1000000)) (fraction_of (n % 1000000)) in
    subst (λ k. k ≤ 19) (sym both) (omega (arith, front, rest))

-- no text of a number or of a truth value is too long to be given to a cell
pub number_short : (m : ℤ) → IsInside m → nat_lt 8192 (length (text_of m)) ≡ false
number_short (pos n) h = let short = unsigned_short n h in not_above (length (unsigned_text n)) 8192 (omega (arith, short))
number_short (negsuc n) h = let short = unsigned_short (suc n) h in not_above (suc (length (unsigned_text (suc n)))) 8192 (omega (arith, short))

pub truth_short : (b : Bool) → nat_lt 8192 (length (truth_text b)) ≡ false
truth_short true = refl
truth_short false = refl

one_more : (n most : ℕ) → n ≢ most → nat_lt most n ≡ nat_lt most (suc n)
one_more n most other = grind (arith, nat_tests)

-- whether the text that gives a text is too long shows without it, but where that text has just as many bytes as may be given
pub text_long : (w : List ℕ) → length w ≢ 8192 → nat_lt 8192 (length w) ≡ nat_lt 8192 (length (text_given w))
text_long w other = go (is_kept (content_of w) w)
  where
    go : (b : Bool) → nat_lt 8192 (length w) ≡ nat_lt 8192 (length (cond b w (39 ∷ w)))
    go true = refl
    go false = one_more (length w) 8192 other
