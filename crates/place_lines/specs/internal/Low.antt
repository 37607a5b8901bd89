-- Tables whose lines have lower numbers than the positions past the sheet's end.
use Rattle.std.specs.Prelude.{◌≡◌, ◌<◌, ℕ, Some}
use Rattle.stable_lines.specs.Lines.{line_at}
use Rattle.stable_lines.specs.declared.table.LineTable.{LineTable}
use Rattle.place_lines.specs.declared.past.TheConstants.{PAST}

-- each line has a lower number than the positions past the sheet's end
abbrev pub HasLowLines : LineTable → Type 0
HasLowLines t = (position line : ℕ) → line_at t position ≡ Some line → line < PAST
