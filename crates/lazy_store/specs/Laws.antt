-- What holds of every formula that a store keeps. Source: this project's own.
use Rattle.std.specs.Prelude.{◌≡◌, ◌≢◌, ◌↔◌, ℕ, ◌+◌, ◌<◌, ◌≤◌, Some, None, option_and_then}
use Rattle.shift_core.specs.declared.shift.Shift.{Shift}
use Rattle.shift_line.specs.Track.{Track, last, shift_at}
use Rattle.tree_rewrite.specs.Rewritten.{Loses}
use Rattle.lazy_store.specs.Kept.{IsAlong, IsCoherent, IsSoundLine, Kept, at, lowest, over}
use Rattle.lazy_store.specs.Standing.{Standing}

-- from its lowest position on a formula has at each position the standing of the one before, taken over the operation
-- between them: as if it were taken over each operation at once. Before that position, and behind the line's last, it
-- has none
pub record StandingsFollow : Type 0 where
  pub next : (line : Track) (h : Kept) (k : ℕ) → IsSoundLine line → IsCoherent line h → lowest line h ≤ k → at line h (k + 1) ≡ option_and_then (over line k) (at line h k)
  pub before : (line : Track) (h : Kept) (k : ℕ) → IsSoundLine line → IsCoherent line h → k < lowest line h → at line h k ≡ None
  pub beyond : (line : Track) (h : Kept) (k : ℕ) → IsCoherent line h → last line < k → at line h k ≡ None

-- a history along which a formula goes is that of its standings
abbrev pub HistoriesAreStandings : Type 0
HistoriesAreStandings = (line : Track) (high : ℕ) (f : ℕ → Standing) (h : Kept) (k : ℕ) → IsSoundLine line → IsAlong line (lowest line h) high f h → lowest line h ≤ k → k ≤ high → at line h k ≡ Some (f k)

-- a tree is saved exactly where the position is behind the one as of which the formula is kept, and the operation there
-- loses something of the tree that the formula has there
abbrev pub SavedWhereLost : Type 0
SavedWhereLost = (line : Track) (h : Kept) (k : ℕ) (s : Shift) (x : Standing) → IsSoundLine line → IsCoherent line h → shift_at line k ≡ Some s → at line h k ≡ Some x
    → (h.saved k ≢ None) ↔ ((k < h.position) × Loses s x.tree)
