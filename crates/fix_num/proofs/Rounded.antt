-- What rounding gives at quotients, and at more places than a number has. Serves `div`, `round_to` and `unit`.
use Rattle.std.proofs.Common.{◌≡◌, ◌∙◌, sym, ap, arith, refl, ℕ, zero, suc, ◌+◌, ◌-◌, ◌*◌, ◌/◌, ◌^◌, ◌<◌, ◌≤◌, ◌≢◌, Bool, true, false, not, ℤ, pos, negsuc, neg_ℤ, ◌*ℤ◌, ◌<ℤ◌, ◌≤ℤ◌, unsigned_abs}
use Rattle.std.specs.Bool.{beq}
use Rattle.std.proofs.Math.Nat.{one-le-pow, pow-le-pow_right, zero-mul, mul-pos}
use Rattle.std.proofs.lemmas.Nat.{div-mul-add}
use Rattle.std.proofs.lemmas.Bool.{ne_eqb}
use Rattle.std.proofs.lemmas.Int.{ints}
use Rattle.fix_num.specs.Number.{within, signed, is_negative, near, nearest, quotient, rounded_to}

-- a unit of more than twice the number rounds it to 0
near_of_less : (p q : ℕ) → 2 * p < q → near p q ≡ 0
near_of_less p q h = ap (λ n. n / (2 * q)) (sum p q) ∙ div-mul-add 0 (2 * q) (2 * p + q) (omega arith)
  where
    sum : (p q : ℕ) → 2 * p + q ≡ 0 * (2 * q) + (2 * p + q)
    sum p q = omega arith

-- a number other than 0 has an absolute value above 0
abs_of_nonzero : (b : ℤ) → b ≢ pos 0 → 0 < unsigned_abs b
abs_of_nonzero (pos zero) h = absurd (h refl)
abs_of_nonzero (pos (suc n)) h = omega arith
abs_of_nonzero (negsuc n) h = omega arith

is_negative-neg : (k : ℕ) → 0 < k → is_negative (neg_ℤ (pos k)) ≡ true
is_negative-neg zero h = absurd (omega arith)
is_negative-neg (suc k) h = refl

signed_zero : (b : Bool) → signed b 0 ≡ pos 0
signed_zero false = refl
signed_zero true = refl

pub near_zero : (q : ℕ) → 0 < q → near 0 q ≡ 0
near_zero q h = near_of_less 0 q (omega arith)

-- a quotient of a number below 0 and one above has a minus sign, and no sign where it is 0
near-negative : (k q : ℕ) → 0 < q → neg_ℤ (pos (near k q)) ≡ signed (is_negative (neg_ℤ (pos (k * q)))) (near k q)
near-negative zero q h = rw (near_zero q h) (sym (signed_zero (is_negative (neg_ℤ (pos (0 * q))))))
near-negative (suc k) q h = let above : 0 < suc k * q = mul-pos (omega arith) h in rw (is_negative-neg (suc k * q) above) refl

millions_of_suc : (m : ℕ) → suc m * 1000000 ≡ suc (m * 1000000 + 999999)
millions_of_suc m = omega arith

-- a quotient has a minus sign where one of the two numbers has
signed_quotient : (a b : ℤ) → 0 < unsigned_abs b
    → signed (not (beq (is_negative a) (is_negative b))) (near (unsigned_abs a * 1000000) (unsigned_abs b)) ≡ nearest (a *ℤ pos 1000000) b
signed_quotient (pos m) (pos n) h = refl
signed_quotient (pos m) (negsuc n) h = near-negative (m * 1000000) (suc n) h
signed_quotient (negsuc m) (pos n) h = rw (millions_of_suc m) (near-negative (suc (m * 1000000 + 999999)) n h)
signed_quotient (negsuc m) (negsuc n) h = rw (millions_of_suc m) refl

pub quotient_of_nonzero : (a b : ℤ) → b ≢ pos 0 → within (signed (not (beq (is_negative a) (is_negative b))) (near (unsigned_abs a * 1000000) (unsigned_abs b))) ≡ quotient a b
quotient_of_nonzero a b h =
    let above = abs_of_nonzero b h in
    let unequal : unsigned_abs b ≢ 0 = omega arith in
    rw (ne_eqb (unsigned_abs b) 0 unequal) (ap within (signed_quotient a b above))

pub pow_bounds : (n : ℕ) → n ≤ 18 → (0 < 10 ^ n) × (10 ^ n ≤ 1000000000000000000)
pow_bounds n h = (one-le-pow n 10 (omega arith), pow-le-pow_right {n = 10} (omega arith) {i = n} {j = 18} h)

twelve : (n : ℕ) → negsuc n <ℤ negsuc 11 → 19 ≤ 7 + n
twelve n p = omega (arith, ints)

pub rounded_to_far : (m places : ℤ) → unsigned_abs m < 1000000000000000000 → places <ℤ negsuc 11 → rounded_to m places ≡ pos 0
rounded_to_far m (pos n) h p = absurd (omega arith)
rounded_to_far m (negsuc n) h p =
    let large : 10 ^ 19 ≤ 10 ^ (7 + n) = pow-le-pow_right {n = 10} (omega arith) {i = 19} {j = 7 + n} (twelve n p) in
    let none : near (unsigned_abs m) (10 ^ (7 + n)) ≡ 0 = near_of_less (unsigned_abs m) (10 ^ (7 + n)) (omega arith) in
    ap (λ k. signed (is_negative m) (k * 10 ^ (7 + n))) none ∙ ap (signed (is_negative m)) (zero-mul (10 ^ (7 + n))) ∙ signed_zero (is_negative m)

near_one : (p : ℕ) → near p 1 * 1 ≡ p
near_one p = omega arith

signed_self : (m : ℤ) → signed (is_negative m) (unsigned_abs m) ≡ m
signed_self (pos n) = refl
signed_self (negsuc n) = refl

pub rounded_to_fine : (m places : ℤ) → pos 6 ≤ℤ places → rounded_to m places ≡ m
rounded_to_fine m (pos n) h =
    let none : 6 - n ≡ 0 = omega (arith, ints) in
    rw none (ap (signed (is_negative m)) (near_one (unsigned_abs m)) ∙ signed_self m)
rounded_to_fine m (negsuc n) h = absurd (omega (arith, ints))
