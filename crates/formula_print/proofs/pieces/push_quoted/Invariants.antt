use Rattle.std.proofs.Common.{◌≡◌, ℕ, List, ◌++◌, length, string_bytes}
use denote.Text.{Utf8}
use denote.Shadow.{shadow}
use Rattle.cell_addr.specs.Quoted.{doubled}
use Rattle.formula_print.proofs.pieces.push_quoted.Given as goal

-- what was written, and the rest of the content doubled, are the whole content doubled
abbrev pub invariant-pieces : goal.invariant-pieces
invariant-pieces l = shadow (Utf8 l.rest) × ((cs : List ℕ) → string_bytes l.out ++ (doubled l.quote l.rest ++ cs) ≡ string_bytes l.initial.out ++ (doubled l.quote l.content ++ cs))

abbrev pub decreases-pieces : goal.decreases-pieces
decreases-pieces l = length l.rest
