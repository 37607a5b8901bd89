-- What a turn makes of the lines of a sheet.
use Rattle.std.specs.Prelude.{◌≡◌, ℕ, ◌<◌, ◌≤◌, Some, IsSomeAnd}
use Rattle.stable_lines.specs.Lines.{line_at}
use Rattle.stable_lines.specs.Runs.{image}
use Rattle.stable_lines.specs.internal.Turns.{turned_back, swaps}
use Rattle.stable_lines.specs.declared.table.LineTable.{LineTable}
use Rattle.stable_lines.specs.declared.turn.Turn.{Turn}

-- the lines change places as the bands do, and a fresh line has a number that none had
pub record IsTurned (t : Turn) (old new : LineTable) : Type 0 where
  pub limit : new.limit ≡ old.limit
  pub next : old.next ≤ new.next
  pub kept : (q p : ℕ) → q < old.limit → image (swaps (turned_back t)) q ≡ Some p → p < old.limit → line_at new q ≡ line_at old p
  pub fresh : (q p : ℕ) → q < old.limit → image (swaps (turned_back t)) q ≡ Some p → old.limit ≤ p → IsSomeAnd (line_at new q) (λ l. old.next ≤ l)
