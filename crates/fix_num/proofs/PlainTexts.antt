-- The text of a number has plain form, and spells the number. Serves the laws of texts.
use Rattle.std.proofs.Common.{◌≡◌, ◌∙◌, sym, ap, arith, refl, ℕ, suc, ◌+◌, ◌-◌, ◌*◌, ◌/◌, ◌%◌, ◌^◌, ◌<◌, ◌≤◌, ◌≢◌, ◌==◌, true, false, not, List, [], ◌∷◌, ◌++◌, length, get_or, inl, inr, ℤ, pos, negsuc, unsigned_abs, Ok}
use Rattle.std.specs.List.{list_all}
use Rattle.std.specs.Fmt.{decimal}
use Rattle.std.proofs.lemmas.Fmt.{decimal_nonempty, first_decimal, decimal_digit}
use Rattle.std.proofs.Math.Nat.{mul_assoc}
use Rattle.std.proofs.lemmas.List.{append-nil}
use Rattle.std.proofs.lemmas.Nat.{pow-add}
use Rattle.std.proofs.lemmas.Bool.{and_parts, ne_eqb, lt-ltb, cases_eq, cases_lt}
use Rattle.digits.specs.Digits.{is_digit, value}
use Rattle.digits.proofs.Numerals.{is_digit-bounds}
use Rattle.digits.proofs.Printed.{value-decimal, list_all-decimal}
use Rattle.digits.proofs.Parts.{before_first-append, after_first-append, before_first-none, after_first-none, digits_without}
use Rattle.fix_num.specs.Number.{IsInside, near, within}
use Rattle.fix_num.specs.Text.{is_point, whole, decimals, has_minus, after_sign, are_parts, is_unsigned, magnitude, number_of, decimals_of, fraction_of, unsigned_text, text_of}
use Rattle.fix_num.specs.Laws.{IsWholePart, AreDecimals, HasPlainForm}
use Rattle.fix_num.proofs.Decimals.{decimals_of-zero, ten_above}
use Rattle.fix_num.proofs.Magnitudes.{near_with_whole, magnitude_of_parts}
use Rattle.fix_num.proofs.Rounded.{near_zero}
use Rattle.fix_num.proofs.SpelledDecimals.{list_all-decimals_of, length-decimals_of, value-decimals_of, decimals_of-some, decimals_of-last}

-- the whole part of a number inside is one that std prints
whole_inside : (n : ℕ) → n < 1000000000000000000 → n / 1000000 < 2 ^ 64
whole_inside n h = omega arith

rest_inside : (n : ℕ) → n % 1000000 < 1000000
rest_inside n = omega arith

fraction_none : (f : ℕ) → f ≡ 0 → fraction_of f ≡ []
fraction_none f e = rw e refl

fraction_some : (f : ℕ) → f ≢ 0 → fraction_of f ≡ 46 ∷ decimals_of 6 f
fraction_some f h = rw (ne_eqb f 0 h) refl

no_point : (ds : List ℕ) → list_all is_digit ds ≡ true → list_all (λ d. not (d == 46)) ds ≡ true
no_point ds h = digits_without 46 ds refl h

-- digits with the fraction of f after them are split into the digits and the decimals of f
whole_of : (ds : List ℕ) (f : ℕ) → list_all is_digit ds ≡ true → whole (ds ++ fraction_of f) ≡ ds
whole_of ds f h = elim (cases_eq f 0) [
  | inl zero_left ↦ rw (fraction_none f zero_left, append-nil ds) (before_first-none is_point ds (no_point ds h))
  | inr some ↦ rw (fraction_some f some) (before_first-append is_point ds 46 (decimals_of 6 f) (no_point ds h) refl)
]

decimals_after : (ds : List ℕ) (f : ℕ) → list_all is_digit ds ≡ true → decimals (ds ++ fraction_of f) ≡ decimals_of 6 f
decimals_after ds f h = elim (cases_eq f 0) [
  | inl zero_left ↦ rw (fraction_none f zero_left, append-nil ds) (after_first-none is_point ds (no_point ds h) ∙ sym (ap (decimals_of 6) zero_left ∙ decimals_of-zero 6))
  | inr some ↦ rw (fraction_some f some) (after_first-append is_point ds 46 (decimals_of 6 f) (no_point ds h) refl)
]

pub whole-unsigned_text : (n : ℕ) → n < 1000000000000000000 → whole (unsigned_text n) ≡ decimal (n / 1000000)
whole-unsigned_text n h = whole_of (decimal (n / 1000000)) (n % 1000000) (list_all-decimal (n / 1000000) (whole_inside n h))

pub decimals-unsigned_text : (n : ℕ) → n < 1000000000000000000 → decimals (unsigned_text n) ≡ decimals_of 6 (n % 1000000)
decimals-unsigned_text n h = decimals_after (decimal (n / 1000000)) (n % 1000000) (list_all-decimal (n / 1000000) (whole_inside n h))

parts_are : (ws ds : List ℕ) → list_all is_digit ws ≡ true → list_all is_digit ds ≡ true → 0 < length ws → are_parts ws ds ≡ true
parts_are ws ds h k s =
    let some : length ws ≢ 0 = omega arith in
    rw (h, k, ne_eqb (length ws) 0 some) refl

-- the text of a number without a sign has the form of one
pub is_unsigned-unsigned_text : (n : ℕ) → n < 1000000000000000000 → is_unsigned (unsigned_text n) ≡ true
is_unsigned-unsigned_text n h =
    let w = whole_inside n h in
    ap (λ ws. are_parts ws (decimals (unsigned_text n))) (whole-unsigned_text n h)
    ∙ ap (are_parts (decimal (n / 1000000))) (decimals-unsigned_text n h)
    ∙ parts_are (decimal (n / 1000000)) (decimals_of 6 (n % 1000000)) (list_all-decimal (n / 1000000) w) (list_all-decimals_of (n % 1000000) (rest_inside n)) (decimal_nonempty (n / 1000000) w)

exact_parts : (v u t f : ℕ) → u * t ≡ 1000000 → v * u ≡ f → 1000000 * v ≡ f * t + 0
exact_parts v u t f e g = omega (arith, ap (λ x. x * t) g, ap (λ x. v * x) e, mul_assoc v u t)

near_exact : (v u t f : ℕ) → 0 < t → u * t ≡ 1000000 → v * u ≡ f → near (1000000 * v) t ≡ f
near_exact v u t f p e g = ap (λ x. near x t) (exact_parts v u t f e g) ∙ near_with_whole f 0 t p ∙ rw (near_zero t p) (omega arith)

million_split : (k : ℕ) → k ≤ 6 → 10 ^ (6 - k) * 10 ^ k ≡ 1000000
million_split k h = let e : 6 - k + k ≡ 6 = omega arith in sym (pow-add 10 (6 - k) k) ∙ ap (λ x. 10 ^ x) e

near_of_decimals : (f : ℕ) → f < 1000000 → near (1000000 * value (decimals_of 6 f)) (10 ^ length (decimals_of 6 f)) ≡ f
near_of_decimals f h =
    let ds = decimals_of 6 f in
    near_exact (value ds) (10 ^ (6 - length ds)) (10 ^ length ds) f (ten_above (length ds)) (million_split (length ds) (length-decimals_of f h)) (value-decimals_of f h)

-- the text of a number without a sign spells it
pub magnitude-unsigned_text : (n : ℕ) → n < 1000000000000000000 → magnitude (unsigned_text n) ≡ n
magnitude-unsigned_text n h =
    magnitude_of_parts (unsigned_text n)
    ∙ rw (whole-unsigned_text n h, decimals-unsigned_text n h, value-decimal (n / 1000000) (whole_inside n h), near_of_decimals (n % 1000000) (rest_inside n)) (omega arith)

not_sign : (c : ℕ) → is_digit c ≡ true → ((c == 45) ≡ false) × ((c == 43) ≡ false)
not_sign c h = let b = is_digit-bounds c h in (ne_eqb c 45 (λ e. omega arith), ne_eqb c 43 (λ e. omega arith))

-- a text that begins with a digit has no sign
no_sign : (xs ys : List ℕ) → 0 < length xs → list_all is_digit xs ≡ true → (has_minus (xs ++ ys) ≡ false) × (after_sign (xs ++ ys) ≡ xs ++ ys)
no_sign [] ys s h = absurd (omega arith)
no_sign (x ∷ xs) ys s h = let n = not_sign x ((and_parts (is_digit x) (list_all is_digit xs) h).0) in (n.0, rw (n.0, n.1) refl)

within_inside : (m : ℤ) → IsInside m → within m ≡ Ok m
within_inside m h = rw (lt-ltb (unsigned_abs m) 1000000000000000000 h) refl

-- the text of a number spells the number
pub number_of-text_of : (m : ℤ) → IsInside m → number_of (text_of m) ≡ Ok m
number_of-text_of (pos n) h =
    let w = whole_inside n h in
    let s = no_sign (decimal (n / 1000000)) (fraction_of (n % 1000000)) (decimal_nonempty (n / 1000000) w) (list_all-decimal (n / 1000000) w) in
    rw (s.1, s.0, is_unsigned-unsigned_text n h, magnitude-unsigned_text n h) (within_inside (pos n) h)
number_of-text_of (negsuc n) h = rw (is_unsigned-unsigned_text (suc n) h, magnitude-unsigned_text (suc n) h) (within_inside (negsuc n) h)

leading : (w : ℕ) → w < 2 ^ 64 → get_or (decimal w) 0 0 ≡ 48 → length (decimal w) ≡ 1
leading w h e = elim (cases_lt 0 w) [
  | inl some ↦ absurd (omega (arith, first_decimal w some h))
  | inr none_left ↦ let small : w < 10 = omega arith in rw (decimal_digit w small) refl
]

whole_part_of : (w : ℕ) → w < 2 ^ 64 → IsWholePart (decimal w)
whole_part_of w h = (list_all-decimal w h, decimal_nonempty w h, leading w h)

decimals_are : (f : ℕ) → f < 1000000 → f ≢ 0 → AreDecimals (decimals_of 6 f)
decimals_are f h n = let some : 0 < f = omega arith in (list_all-decimals_of f h, decimals_of-some f h some, decimals_of-last f h some)

-- the text of a number without a sign is digits, or digits with a point and digits, with no needless 0
pub plain-unsigned_text : (n : ℕ) → n < 1000000000000000000 → HasPlainForm (unsigned_text n)
plain-unsigned_text n h = (
  decimal (n / 1000000),
  whole_part_of (n / 1000000) (whole_inside n h),
  elim (cases_eq (n % 1000000) 0) [
    | inl zero_left ↦ inl (ap (λ t. decimal (n / 1000000) ++ t) (fraction_none (n % 1000000) zero_left) ∙ append-nil (decimal (n / 1000000)))
    | inr some ↦ inr (decimals_of 6 (n % 1000000), ap (λ t. decimal (n / 1000000) ++ t) (fraction_some (n % 1000000) some), decimals_are (n % 1000000) (rest_inside n) some)
  ],
)

pub negative_text : (n : ℕ) → 0 < n → text_of (negsuc (n - 1)) ≡ 45 ∷ text_of (pos n)
negative_text n h = let e : suc (n - 1) ≡ n = omega arith in ap (λ k. 45 ∷ unsigned_text k) e
