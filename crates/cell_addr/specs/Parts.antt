-- The parts of a text around one byte, as Rust's `split_once` and `strip_prefix` give them.
use Rattle.std.specs.Prelude.{ℕ, if◌then◌else◌, ◌==◌, List, [], ◌∷◌, Option, Some, None}
use Rattle.std.specs.Option.{option_map}

-- one byte more in front of the first of two parts
abbrev pub with_byte : ℕ → Option (List ℕ × List ℕ) → Option (List ℕ × List ℕ)
with_byte c parts = option_map (λ p. (c ∷ p.0, p.1)) parts

-- what precedes and what follows the first such byte, where there is one
abbrev pub split_once : ℕ → List ℕ → Option (List ℕ × List ℕ)
split_once c [] = None
split_once c (d ∷ ds) = if d == c then Some ([], ds) else with_byte d (split_once c ds)

-- what follows the byte that a text begins with, where it is this one
abbrev pub strip_prefix : ℕ → List ℕ → Option (List ℕ)
strip_prefix c [] = None
strip_prefix c (d ∷ ds) = if d == c then Some ds else None
