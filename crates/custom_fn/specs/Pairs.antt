-- Pairs of numbers, in millionths: where a band or a tier begins, and its value or its rate. Source: this
-- project's own.
use Rattle.std.specs.Prelude.{◌&&◌, ◌-◌, ◌+ℤ◌, ◌*ℤ◌, min, nat_le, ℕ, ℤ, pos, unsigned_abs, int_lt, int_le, Bool, true, false, List, [], ◌∷◌, length, reverse, Option, find}
use Rattle.std.specs.Option.{option_map}
use Rattle.std.specs.Ordering.{int_eq}
use Rattle.custom_fn.specs.declared.rule.TheConstants.{MAX_PAIRS}

-- each pair begins above the one before it, and the first above this number
abbrev pub rises_above : ℤ → List (ℤ × ℤ) → Bool
rises_above last [] = true
rises_above last (pair ∷ rest) = int_lt last pair.0 && rises_above pair.0 rest

-- each pair begins above the one before it
abbrev pub rises : List (ℤ × ℤ) → Bool
rises [] = true
rises (pair ∷ rest) = rises_above pair.0 rest

-- 1 to 64 pairs that rise
abbrev pub are_bands : List (ℤ × ℤ) → Bool
are_bands pairs = (nat_le 1 (length pairs) && nat_le (length pairs) MAX_PAIRS) && rises pairs

-- the first pair begins at 0
abbrev pub begins_at_zero : List (ℤ × ℤ) → Bool
begins_at_zero [] = false
begins_at_zero (pair ∷ rest) = int_eq pair.0 (pos 0)

-- 1 to 64 pairs that rise from 0
abbrev pub are_tiers : List (ℤ × ℤ) → Bool
are_tiers pairs = are_bands pairs && begins_at_zero pairs

-- the value of the last pair that doesn't begin above the number, if there is one
abbrev pub band_of : ℤ → List (ℤ × ℤ) → Option ℤ
band_of x pairs = option_map (λ pair. pair.1) (find (λ pair. int_le pair.0 x) (reverse pairs))

-- how much of an amount lies between where this pair begins and where the next one does; the last has no end
abbrev pub tier_part : ℕ → ℤ → List (ℤ × ℤ) → ℕ
tier_part x from [] = x - unsigned_abs from
tier_part x from (next ∷ rest) = min x (unsigned_abs next.0) - unsigned_abs from

-- the sum over all pairs of the rate times the part, in millionths of millionths
abbrev pub tier_total : ℕ → List (ℤ × ℤ) → ℤ
tier_total x [] = pos 0
tier_total x (pair ∷ rest) = (pair.1 *ℤ pos (tier_part x pair.0 rest)) +ℤ tier_total x rest
