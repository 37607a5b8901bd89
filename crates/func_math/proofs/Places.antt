-- Rounding at more places than a number has, and before all of them: for ROUND, ROUNDUP and ROUNDDOWN.
use Rattle.std.proofs.Common.{◌≡◌, ◌∙◌, sym, ap, refl, ℕ, zero, suc, ◌+◌, ◌-◌, ◌*◌, ◌/◌, ◌%◌, ◌^◌, ◌<◌, ◌≤◌, ◌≢◌, Bool, true, false, ℤ, pos, negsuc, ◌<ℤ◌, ◌≤ℤ◌, unsigned_abs, Ok, Err, arith}
use Rattle.std.proofs.Math.Nat.{pow-le-pow_right, zero-mul, one-le-pow, mod-eq_of_lt}
use Rattle.std.proofs.lemmas.Nat.{div-mul-add}
use Rattle.std.proofs.lemmas.Bool.Decides.{nat_tests}
use Rattle.std.proofs.lemmas.Int.{ints}
use Rattle.fix_num.specs.Number.{IsInside, within, signed, is_negative, unit}
use Rattle.fix_num.specs.declared.error.NumError.TheVariants.{Range}
use Rattle.fix_num.proofs.Rounded.{rounded_to_fine, rounded_to_far}
use Rattle.cell_value.specs.declared.fault.FaultKind.TheVariants.{Num}
use Rattle.func_args.specs.Answers.{gives, calculated}
use Rattle.std.specs.Int.{div_ceil}
use Rattle.func_math.specs.Rounding.{round_to, raised_to, cut_to}

within_inside : (m : ℤ) → IsInside m → within m ≡ Ok m
within_inside m h = grind (arith, nat_tests)

pub gives_inside : (m : ℤ) → IsInside m → gives m ≡ Ok m
gives_inside m h = ap calculated (within_inside m h)

signed_self : (m : ℤ) → signed (is_negative m) (unsigned_abs m) ≡ m
signed_self (pos n) = refl
signed_self (negsuc n) = refl

signed_zero : (b : Bool) → signed b 0 ≡ pos 0
signed_zero false = refl
signed_zero true = refl

zero_inside : IsInside (pos 0)
zero_inside = omega arith

-- from the sixth place on the unit is one millionth
unit_fine : (places : ℤ) → pos 6 ≤ℤ places → unit places ≡ 1
unit_fine (pos n) h = let none : 6 - n ≡ 0 = omega (arith, ints) in rw none refl
unit_fine (negsuc n) h = absurd (omega (arith, ints))

twelve : (n : ℕ) → negsuc n <ℤ negsuc 11 → 19 ≤ 7 + n
twelve n p = omega (arith, ints)

-- before the twelfth place in front of the point it is beyond all numbers
unit_far : (places : ℤ) → places <ℤ negsuc 11 → 10 ^ 19 ≤ unit places
unit_far (pos n) p = absurd (omega (arith, ints))
unit_far (negsuc n) p = pow-le-pow_right {n = 10} (omega arith) {i = 19} {j = 7 + n} (twelve n p)

unit_positive : (places : ℤ) → 0 < unit places
unit_positive (pos n) = one-le-pow (6 - n) 10 (omega arith)
unit_positive (negsuc n) = one-le-pow (7 + n) 10 (omega arith)

pub round_to_fine : (m places : ℤ) → IsInside m → pos 6 ≤ℤ places → Ok m ≡ round_to m places
round_to_fine m places i h = sym (ap gives (rounded_to_fine m places h) ∙ gives_inside m i)

pub round_to_far : (m places : ℤ) → IsInside m → places <ℤ negsuc 11 → Ok (pos 0) ≡ round_to m places
round_to_far m places i h = sym (ap gives (rounded_to_far m places i h) ∙ gives_inside (pos 0) zero_inside)

by_one : (n : ℕ) → n / 1 * 1 ≡ n
by_one n = omega arith

up_by_one : (n : ℕ) → div_ceil n 1 * 1 ≡ n
up_by_one n = omega arith

pub cut_to_fine : (m places : ℤ) → IsInside m → pos 6 ≤ℤ places → Ok m ≡ cut_to m places
cut_to_fine m places i h =
    sym (ap (λ u. gives (signed (is_negative m) (unsigned_abs m / u * u))) (unit_fine places h)
    ∙ ap (λ n. gives (signed (is_negative m) n)) (by_one (unsigned_abs m)) ∙ ap gives (signed_self m) ∙ gives_inside m i)

less_div : (n u : ℕ) → n < u → n / u ≡ 0
less_div n u h = ap (λ k. k / u) (as_rest n u) ∙ div-mul-add 0 u n h
  where
    as_rest : (n u : ℕ) → n ≡ 0 * u + n
    as_rest n u = omega arith

-- so nothing is left of the number but itself
less_mod : (n u : ℕ) → n < u → n % u ≡ n
less_mod n u h = mod-eq_of_lt h

pub cut_to_far : (m places : ℤ) → IsInside m → places <ℤ negsuc 11 → Ok (pos 0) ≡ cut_to m places
cut_to_far m places i h =
    let large = unit_far places h in
    let none : unsigned_abs m / unit places ≡ 0 = less_div (unsigned_abs m) (unit places) (omega arith) in
    sym (ap (λ q. gives (signed (is_negative m) (q * unit places))) none ∙ ap (λ n. gives (signed (is_negative m) n)) (zero-mul (unit places)) ∙ ap gives (signed_zero (is_negative m)) ∙ gives_inside (pos 0) zero_inside)

pub raised_to_fine : (m places : ℤ) → IsInside m → pos 6 ≤ℤ places → Ok m ≡ raised_to m places
raised_to_fine m places i h =
    sym (ap (λ u. gives (signed (is_negative m) (div_ceil (unsigned_abs m) u * u))) (unit_fine places h)
    ∙ ap (λ n. gives (signed (is_negative m) n)) (up_by_one (unsigned_abs m)) ∙ ap gives (signed_self m) ∙ gives_inside m i)

-- 0 stays 0
pub raised_to_zero : (m places : ℤ) → unsigned_abs m ≡ 0 → Ok (pos 0) ≡ raised_to m places
raised_to_zero m places e =
    let u = unit_positive places in
    let q : unsigned_abs m / unit places ≡ 0 = less_div (unsigned_abs m) (unit places) (omega arith) in
    let r : unsigned_abs m % unit places ≡ unsigned_abs m = less_mod (unsigned_abs m) (unit places) (omega arith) in
    let none : div_ceil (unsigned_abs m) (unit places) ≡ 0 = omega arith in
    sym (ap (λ q. gives (signed (is_negative m) (q * unit places))) none ∙ ap (λ n. gives (signed (is_negative m) n)) (zero-mul (unit places)) ∙ ap gives (signed_zero (is_negative m)) ∙ gives_inside (pos 0) zero_inside)

unsigned_abs-signed : (b : Bool) (n : ℕ) → unsigned_abs (signed b n) ≡ n
unsigned_abs-signed false n = refl
unsigned_abs-signed true zero = refl
unsigned_abs-signed true (suc n) = refl

within_outside : (m : ℤ) → 1000000000000000000 ≤ unsigned_abs m → within m ≡ Err Range
within_outside m h = grind (arith, nat_tests)

-- any other number is beyond all numbers then
pub raised_to_far : (m places : ℤ) → IsInside m → unsigned_abs m ≢ 0 → places <ℤ negsuc 11 → Err Num ≡ raised_to m places
raised_to_far m places i ne h =
    let large = unit_far places h in
    let q : unsigned_abs m / unit places ≡ 0 = less_div (unsigned_abs m) (unit places) (omega arith) in
    let r : unsigned_abs m % unit places ≡ unsigned_abs m = less_mod (unsigned_abs m) (unit places) (omega arith) in
    let one : div_ceil (unsigned_abs m) (unit places) ≡ 1 = omega arith in
    let outside : 1000000000000000000 ≤ unsigned_abs (signed (is_negative m) (1 * unit places)) = rw (unsigned_abs-signed (is_negative m) (1 * unit places)) (omega arith) in
    sym (ap (λ q. gives (signed (is_negative m) (q * unit places))) one ∙ ap calculated (within_outside (signed (is_negative m) (1 * unit places)) outside))
