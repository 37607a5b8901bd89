-- Decimal digits as bytes, and the number that they spell.
use Rattle.std.specs.Prelude.{ℕ, ◌+◌, ◌-◌, ◌*◌, Bool, ◌&&◌, nat_lt, List, [], ◌∷◌}

-- the byte is one of the digits 0 to 9
abbrev pub is_digit : ℕ → Bool
is_digit c = nat_lt 47 c && nat_lt c 58

-- the number that digits spell after those that spell n
abbrev pub value_from : ℕ → List ℕ → ℕ
value_from n [] = n
value_from n (c ∷ cs) = value_from (10 * n + (c - 48)) cs

-- the number that digits spell, the most significant first; no digits spell 0
abbrev pub value : List ℕ → ℕ
value cs = value_from 0 cs
