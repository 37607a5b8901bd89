-- What the levels of a sheet's lines come to with the near one as the first of the farther ones.
use Rattle.std.specs.Prelude.{◌≡◌, ℕ, ◌+◌, ◌-◌, List, [], ◌∷◌, ◌++◌, option_and_then}
use Rattle.stable_lines.specs.Runs.{image}
use Rattle.stable_lines.specs.declared.run.Run.{Run}
use Rattle.stable_lines.specs.declared.table.LineTable.{LineTable}
use Rattle.stable_lines.specs.internal.Levels.{back_through, through}
use Rattle.stable_lines.specs.internal.Turns.{fresh, fresh_back}

-- the number of the next new line, of those that the near level counts
abbrev pub near_next : LineTable → ℕ
near_next t = t.limit + (t.next - t.base)

-- how many fresh lines there can be
abbrev pub room_of : LineTable → ℕ
room_of t = 9223372036854775808 - near_next t

-- positions lead through the near level, and fresh ones behind the sheet to fresh lines, and then through the farther ones
abbrev pub LeadOn : LineTable → List (List Run) → Type 0
LeadOn t far = (x : ℕ) → through far x ≡ option_and_then (through t.lines.far) (image (t.lines.near ++ fresh t.limit (near_next t) (room_of t) ∷ []) x)

-- and back
abbrev pub LeadBack : LineTable → List (List Run) → Type 0
LeadBack t far = (x : ℕ) → back_through far x ≡ option_and_then (image (t.positions.near ++ fresh_back t.limit (near_next t) (room_of t) ∷ [])) (back_through t.positions.far x)
