-- The printed decimals are digits that spell the rest, and don't end in 0. Serves the laws of texts.
use Rattle.std.proofs.Common.{◌≡◌, ◌∙◌, sym, ap, arith, refl, ℕ, zero, suc, ◌+◌, ◌-◌, ◌*◌, ◌/◌, ◌%◌, ◌^◌, ◌<◌, ◌≤◌, ◌≢◌, true, List, [], ◌∷◌, length, get_or, inl, inr}
use Rattle.std.specs.List.{list_all}
use Rattle.std.proofs.Math.Nat.{add-mul, mul_assoc, pow-suc}
use Rattle.std.proofs.lemmas.Nat.{pow-add, div_below, mod_below, div-add-mod'}
use Rattle.std.proofs.lemmas.Bool.{and_from, cases_lt}
use Rattle.digits.specs.Digits.{is_digit, value}
use Rattle.digits.proofs.Numerals.{value_from-split}
use Rattle.digits.proofs.Printed.{digit_is}
use Rattle.fix_num.specs.Text.{decimals_of}
use Rattle.fix_num.proofs.Decimals.{decimals_of-zero, decimals_of-suc, ten_above}

-- the last digit, if there is one, isn't 0
abbrev EndsWell : List ℕ → Type 0
EndsWell [] = Unit {0}
EndsWell (c ∷ []) = c ≢ 48
EndsWell (c ∷ d ∷ ds) = EndsWell (d ∷ ds)

ends_well_at : (c : ℕ) (ds : List ℕ) → EndsWell (c ∷ ds) → get_or (c ∷ ds) (length ds) 0 ≢ 48
ends_well_at c [] h = h
ends_well_at c (d ∷ ds) h = ends_well_at d ds h

-- so many places spell the rest
record Spell (places rest : ℕ) (ds : List ℕ) : Type 0 where
  digits : list_all is_digit ds ≡ true
  few : length ds ≤ places
  spelled : value ds * 10 ^ (places - length ds) ≡ rest
  some : 0 < rest → 0 < length ds
  ends : EndsWell ds

spell_nothing : (k : ℕ) → Spell k 0 []
spell_nothing k = record { digits = refl; few = omega arith; spelled = omega arith; some = λ h. absurd (omega arith); ends = tt }

sum_spelled : (q t v u p m rest : ℕ) → t * u ≡ p → v * u ≡ m → q * p + m ≡ rest → ((10 * 0 + q) * t + v) * u ≡ rest
sum_spelled q t v u p m rest e f g = omega (arith, add-mul (q * t) v u, mul_assoc q t u, ap (λ x. q * x) e, f, g)

value_more : (k q m rest : ℕ) (ds : List ℕ) → length ds ≤ k → value ds * 10 ^ (k - length ds) ≡ m → q * 10 ^ k + m ≡ rest
    → value ((48 + q) ∷ ds) * 10 ^ (suc k - length ((48 + q) ∷ ds)) ≡ rest
value_more k q m rest ds few v e =
    let back : 48 + q - 48 ≡ q = omega arith in
    let left : suc k - suc (length ds) ≡ k - length ds = omega arith in
    let both : length ds + (k - length ds) ≡ k = omega arith in
    let power : 10 ^ length ds * 10 ^ (k - length ds) ≡ 10 ^ k = sym (pow-add 10 (length ds) (k - length ds)) ∙ ap (λ n. 10 ^ n) both in
    rw (value_from-split (10 * 0 + (48 + q - 48)) ds, back, left) (sum_spelled q (10 ^ length ds) (value ds) (10 ^ (k - length ds)) (10 ^ k) m rest power v e)

-- a digit before nothing, or before decimals that end well
ends_more : (q m p rest : ℕ) (ds : List ℕ) → q * p + m ≡ rest → 0 < rest → (m ≡ 0 → ds ≡ []) → (0 < m → 0 < length ds) → EndsWell ds → EndsWell ((48 + q) ∷ ds)
ends_more zero zero p rest [] e r n s h = absurd (omega arith)
ends_more (suc q) zero p rest [] e r n s h = λ f. omega arith
ends_more q zero p rest (d ∷ ds) e r n s h = h
ends_more q (suc m) p rest [] e r n s h = absurd (omega (arith, s (omega arith)))
ends_more q (suc m) p rest (d ∷ ds) e r n s h = h

spell_more : (k rest : ℕ) → rest < 10 ^ suc k → 0 < rest → Spell k (rest % 10 ^ k) (decimals_of k (rest % 10 ^ k)) → Spell (suc k) rest ((48 + rest / 10 ^ k) ∷ decimals_of k (rest % 10 ^ k))
spell_more k rest r some h =
    let q = rest / 10 ^ k in
    let m = rest % 10 ^ k in
    let ds = decimals_of k m in
    let parts : rest / 10 ^ k * 10 ^ k + rest % 10 ^ k ≡ rest = div-add-mod' rest (10 ^ k) in
    let below : rest / 10 ^ k < 10 = div_below rest (10 ^ k) 10 (ten_above k) (omega (arith, r, pow-suc 10 k)) in
    record {
      digits = and_from _ _ (digit_is q below) h.digits;
      few = omega (arith, h.few);
      spelled = value_more k q m rest ds h.few h.spelled parts;
      some = λ s. omega arith;
      ends = ends_more q m (10 ^ k) rest ds parts some (λ z. ap (decimals_of k) z ∙ decimals_of-zero k) h.some h.ends;
    }

spell_all : (k rest : ℕ) → rest < 10 ^ k → Spell k rest (decimals_of k rest)
spell_all zero rest r = let none : rest ≡ 0 = omega arith in rw (none, decimals_of-zero 0) (spell_nothing 0)
spell_all (suc k) rest r = elim (cases_lt 0 rest) [
  | inl some ↦ rw (decimals_of-suc k rest some) (spell_more k rest r some (spell_all k (rest % 10 ^ k) (mod_below rest (10 ^ k) (ten_above k))))
  | inr none_left ↦ let none : rest ≡ 0 = omega arith in rw (none, decimals_of-zero (suc k)) (spell_nothing (suc k))
]

pub list_all-decimals_of : (rest : ℕ) → rest < 1000000 → list_all is_digit (decimals_of 6 rest) ≡ true
list_all-decimals_of rest r = (spell_all 6 rest r).digits

pub length-decimals_of : (rest : ℕ) → rest < 1000000 → length (decimals_of 6 rest) ≤ 6
length-decimals_of rest r = (spell_all 6 rest r).few

pub value-decimals_of : (rest : ℕ) → rest < 1000000 → value (decimals_of 6 rest) * 10 ^ (6 - length (decimals_of 6 rest)) ≡ rest
value-decimals_of rest r = (spell_all 6 rest r).spelled

pub decimals_of-some : (rest : ℕ) → rest < 1000000 → 0 < rest → 0 < length (decimals_of 6 rest)
decimals_of-some rest r = (spell_all 6 rest r).some

last_of : (ds : List ℕ) → 0 < length ds → EndsWell ds → get_or ds (length ds - 1) 0 ≢ 48
last_of [] s h = absurd (omega arith)
last_of (c ∷ ds) s h = let e : suc (length ds) - 1 ≡ length ds = omega arith in rw e (ends_well_at c ds h)

pub decimals_of-last : (rest : ℕ) → rest < 1000000 → 0 < rest → get_or (decimals_of 6 rest) (length (decimals_of 6 rest) - 1) 0 ≢ 48
decimals_of-last rest r s = last_of (decimals_of 6 rest) ((spell_all 6 rest r).some s) ((spell_all 6 rest r).ends)
