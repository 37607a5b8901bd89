-- The cells of a row of a table, as a page of Markdown has them.
use Rattle.std.specs.Prelude.{ℕ, ◌==◌, if◌then◌else◌, List, [], ◌∷◌, Option, Some, None, option_map, option_and_then, codes}

-- what follows the words at the front of a text; `None` where it doesn't begin with them
abbrev pub after_front : List ℕ → List ℕ → Option (List ℕ)
after_front [] text = Some text
after_front (c ∷ cs) [] = None
after_front (c ∷ cs) (d ∷ ds) = if c == d then after_front cs ds else None

-- the parts around what stands at the front, or else those around what stands later
abbrev pub parts_or : Option (List ℕ) → Option (List ℕ × List ℕ) → Option (List ℕ × List ℕ)
parts_or (Some rest) later = Some ([], rest)
parts_or None later = later

-- what precedes and what follows the words where they first stand in a text; `None` where they don't
abbrev pub around : List ℕ → List ℕ → Option (List ℕ × List ℕ)
around words [] = parts_or (after_front words []) None
around words (d ∷ ds) = parts_or (after_front words (d ∷ ds)) (option_map (λ p. (d ∷ p.0, p.1)) (around words ds))

-- what precedes the bar that ends a row's second cell, beside what the first one has
abbrev pub with_second : List ℕ × List ℕ → Option (List ℕ × List ℕ)
with_second cells = option_map (λ p. (cells.0, p.0)) (around (codes " |") cells.1)

-- what stands between the backticks of a row's first cell, and what stands in its second one; `None` where the line is no such row
abbrev pub cells : List ℕ → Option (List ℕ × List ℕ)
cells line = option_and_then (λ rest. option_and_then with_second (around (codes "` | ") rest)) (after_front (codes "| `") line)
