-- Lists of what nodes need. Nodes are numbers. Source: this project's own.
use Rattle.std.specs.Prelude.{ℕ, List, [], map, slice_index_or}
use Rattle.smallvec.specs.SmallVec.{SmallVec}

-- the list of a node; none past the last
abbrev pub needs_at : List (SmallVec ℕ) → ℕ → List ℕ
needs_at lists a = slice_index_or (map (λ list. list.items) lists) a []
