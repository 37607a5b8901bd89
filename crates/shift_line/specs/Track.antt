-- The line of a session's structural operations, as callers see it. Source: this project's own.
use Rattle.std.specs.Prelude.{◌≡◌, ℕ, ◌+◌, ◌-◌, nat_le, if◌then◌else◌, List, ◌∷◌, [], ◌++◌, length, take, drop, slice_get, Option, Some, None}
use Rattle.shift_core.specs.declared.shift.Shift.{Shift}

-- the operations kept, in order: the first one leads from the position `first` to the next. Positions number all
-- operations that ever were on the line. The cursor is at a position; `spare` is how many operations more fit
-- without memory
pub record Track : Type 0 where
  pub shifts : List Shift
  pub first : ℕ
  pub cursor : ℕ
  pub spare : ℕ

-- the position behind the last operation
abbrev pub last : Track → ℕ
last t = t.first + length t.shifts

-- the operation that leads from the position to the next one
abbrev pub shift_at : Track → ℕ → Option Shift
shift_at t k = if nat_le t.first k then slice_get t.shifts (k - t.first) else None

-- the operations lead, one after the other, from the position on
abbrev pub IsRun : Track → ℕ → List Shift → Type 0
IsRun t k [] = Unit {0}
IsRun t k (s ∷ run) = (shift_at t k ≡ Some s) × IsRun t (k + 1) run

-- the operations in front of the cursor
abbrev pub passed : Track → List Shift
passed t = take (t.cursor - t.first) t.shifts

-- the line with what was beyond the cursor cut off, one operation more, and the cursor behind it
abbrev pub pushed : Shift → Track → Track
pushed s t = record t { shifts = passed t ++ s ∷ []; cursor = t.cursor + 1 }

-- the line without the operations in front of the position
abbrev pub forgotten : ℕ → Track → Track
forgotten k t = record t { shifts = drop (k - t.first) t.shifts; first = k }

-- the same but for the room
abbrev pub with_spare : ℕ → Track → Track
with_spare n t = record t { spare = n }
