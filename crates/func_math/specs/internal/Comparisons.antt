-- The comparisons of criteria, by their first byte.
use Rattle.std.specs.Prelude.{ℕ, List, Option, Some, None}
use Rattle.cell_addr.specs.Parts.{strip_prefix}
use Rattle.func_math.specs.declared.criterion.Comparison.{Comparison}
use Rattle.func_math.specs.declared.criterion.Comparison.TheVariants.{Less, Greater, Unequal, AtMost, AtLeast}

-- the first comparison of which something is left, or else the other
abbrev pub first_of : Comparison → Option (List ℕ) → Comparison × List ℕ → Comparison × List ℕ
first_of comparison (Some rest) other = (comparison, rest)
first_of comparison None other = other

-- the comparison that begins with `<`, and what follows it
abbrev pub after_less : List ℕ → Comparison × List ℕ
after_less text = first_of AtMost (strip_prefix 61 text) (first_of Unequal (strip_prefix 62 text) (Less, text))

-- the comparison that begins with `>`, and what follows it
abbrev pub after_greater : List ℕ → Comparison × List ℕ
after_greater text = first_of AtLeast (strip_prefix 61 text) (Greater, text)
