-- The lines along one axis of a sheet: which stands at each position, and what an edit makes of them. Source: this
-- project's own.
use Rattle.std.specs.Prelude.{◌≡◌, ℕ, ◌+◌, ◌<◌, ◌≤◌, nat_lt, if◌then◌else◌, Option, Some, None, IsSomeAnd}
use Rattle.stable_lines.specs.Runs.{image}
use Rattle.stable_lines.specs.declared.run.Run.{Run}
use Rattle.stable_lines.specs.declared.table.LineTable.{LineTable}

-- the line at a position; none past the sheet's end
abbrev pub line_at : LineTable → ℕ → Option ℕ
line_at t position = image t.lines.items position

-- where a line stands; none where it was deleted, pushed off or never made
abbrev pub position_of : LineTable → ℕ → Option ℕ
position_of t line = image t.positions.items line

-- the lines of a sheet that was never edited: each at the position of its own number
abbrev pub first_line : ℕ → ℕ → Option ℕ
first_line limit position = if nat_lt position limit then Some position else None

-- what comes to a position: the line that stood where the rule says, or one with a number that none had
abbrev pub ComesTo : LineTable → LineTable → ℕ → Option ℕ → Type 0
ComesTo old new position (Some before) = line_at new position ≡ line_at old before
ComesTo old new position None = IsSomeAnd (line_at new position) (λ line. old.next ≤ line)

-- the lines after an edit, by the rule that says which position's line comes to each: they keep their numbers, and
-- lines that come in have numbers that no line had
abbrev pub AreRenewed : (ℕ → Option ℕ) → LineTable → LineTable → Type 0
AreRenewed before old new =
    (new.limit ≡ old.limit) × (old.next ≤ new.next) × ((position : ℕ) → position < old.limit → ComesTo old new position (before position))

-- a run of lines that follow one another from a position on, within the sheet
abbrev pub IsRunFrom : LineTable → ℕ → Run → Type 0
IsRunFrom t position r =
    (r.from ≡ position) × (0 < r.count) × (position + r.count ≤ t.limit) × ((i : ℕ) → i < r.count → line_at t (position + i) ≡ Some (r.to + i))

-- two tables with the same lines at the same positions
abbrev pub AreSame : LineTable → LineTable → Type 0
AreSame t u =
    (t.limit ≡ u.limit) × (t.next ≡ u.next) × ((x : ℕ) → line_at t x ≡ line_at u x) × ((x : ℕ) → position_of t x ≡ position_of u x)
