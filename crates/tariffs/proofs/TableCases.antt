-- What the two tables answer of a number that begins so many of their rows. It serves the two functions.
use Rattle.std.proofs.Common.{◌≡◌, ◌≢◌, ap, arith, refl, ℕ, zero, suc, ℤ, pos, negsuc, ◌-◌, ◌<◌, ◌≤◌, true, false, None}
use Rattle.std.specs.Prelude.{int_le, unsigned_abs}
use Rattle.std.specs.List.{AllWithin}
use Rattle.std.proofs.lemmas.Bool.Decides.{nat_tests}
use Rattle.std.proofs.lemmas.Int.{ints}
use Rattle.cell_value.specs.declared.fault.FaultKind.TheVariants.{Num}
use Rattle.cell_value.specs.declared.scalar.Scalar.TheVariants.{Fault}
use Rattle.custom_fn.specs.Answer.{rounded, tiered}
use Rattle.custom_fn.specs.Pairs.{band_of, tier_total}
use Rattle.tariffs.specs.declared.tables.TheConstants.{LEVY, POSTAGE}
use Rattle.tariffs.specs.internal.Levied.{total_in}

-- a number below all bands has no price
pub no-price : (x : ℤ) → AllWithin (λ (row : ℤ × ℤ). int_le row.0 x ≡ false) POSTAGE 0 4 → band_of x POSTAGE ≡ None
no-price x h =
    let d : ℤ × ℤ = (pos 0, pos 0) in
    rw (h 3 d (omega arith) (omega arith), h 2 d (omega arith) (omega arith), h 1 d (omega arith) (omega arith), h 0 d (omega arith) (omega arith)) refl

-- a number below all tiers is negative
pub no-levy : (x : ℤ) → AllWithin (λ (row : ℤ × ℤ). int_le row.0 x ≡ false) LEVY 0 3 → tiered x LEVY ≡ Fault Num
no-levy (pos n) h = let first : int_le (pos 0) (pos n) ≡ false = h 0 (pos 0, pos 0) (omega arith) (omega arith) in absurd (omega (arith, ints))
no-levy (negsuc n) h = refl

in-first : (a : ℕ) → a < 1000000000 → pos (total_in 0 a) ≡ tier_total a LEVY
in-first a l = ap pos (omega arith)

in-second : (a : ℕ) → 1000000000 ≤ a → a < 5000000000 → pos (total_in 1 a) ≡ tier_total a LEVY
in-second a l m = ap pos (omega arith)

in-third : (a : ℕ) → 5000000000 ≤ a → pos (total_in 2 a) ≡ tier_total a LEVY
in-third a l = ap pos (omega arith)

-- the tier that an amount ends in gives its levy
pub levy-of : (x : ℤ) (n : ℕ) → n ≢ 0 → n ≤ 3 → AllWithin (λ (row : ℤ × ℤ). int_le row.0 x ≡ true) LEVY 0 n → AllWithin (λ (row : ℤ × ℤ). int_le row.0 x ≡ false) LEVY n 3
    → rounded (pos (total_in (n - 1) (unsigned_abs x))) ≡ tiered x LEVY
levy-of (negsuc k) zero some most before behind = absurd (some refl)
levy-of (negsuc k) (suc n) some most before behind = let first : int_le (pos 0) (negsuc k) ≡ true = before 0 (pos 0, pos 0) (omega arith) (omega arith) in absurd (omega (arith, ints))
levy-of (pos a) zero some most before behind = absurd (some refl)
levy-of (pos a) (suc zero) some most before behind =
    let next : int_le (pos 1000000000) (pos a) ≡ false = behind 1 (pos 0, pos 0) (omega arith) (omega arith) in
    let below : a < 1000000000 = grind (arith, nat_tests) in
    ap rounded (in-first a below)
levy-of (pos a) (suc (suc zero)) some most before behind =
    let this : int_le (pos 1000000000) (pos a) ≡ true = before 1 (pos 0, pos 0) (omega arith) (omega arith) in
    let next : int_le (pos 5000000000) (pos a) ≡ false = behind 2 (pos 0, pos 0) (omega arith) (omega arith) in
    let above : 1000000000 ≤ a = grind (arith, nat_tests) in
    let below : a < 5000000000 = grind (arith, nat_tests) in
    ap rounded (in-second a above below)
levy-of (pos a) (suc (suc (suc zero))) some most before behind =
    let this : int_le (pos 5000000000) (pos a) ≡ true = before 2 (pos 0, pos 0) (omega arith) (omega arith) in
    let above : 5000000000 ≤ a = grind (arith, nat_tests) in
    ap rounded (in-third a above)
levy-of (pos a) (suc (suc (suc (suc n)))) some most before behind = absurd (omega arith)
