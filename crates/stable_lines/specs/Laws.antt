-- What holds of every table of lines. Source: this project's own.
use Rattle.std.specs.Prelude.{◌≡◌, ℕ, ◌<◌, ◌↔◌, Some, IsSome}
use Rattle.stable_lines.specs.Lines.{line_at, position_of}
use Rattle.stable_lines.specs.declared.table.LineTable.{LineTable}

-- each position of the sheet and no other has a line, below the number of the next new one; and a line is at a position
-- exactly where that is the line's own
abbrev pub PositionsReturn : Type 0
PositionsReturn =
    (t : LineTable) →
    ((position line : ℕ) → (line_at t position ≡ Some line) ↔ (position_of t line ≡ Some position))
    × ((position : ℕ) → IsSome (line_at t position) ↔ (position < t.limit))
    × ((position line : ℕ) → line_at t position ≡ Some line → line < t.next)
