-- What an edit does to the number of one line, of `limit` lines that a sheet has. Source: this project's own.
use Rattle.std.specs.Prelude.{◌≢◌, ℕ, Bool, ◌+◌, ◌-◌, ◌<◌, ◌≤◌, ◌⊎◌, nat_lt, nat_le, ◌&&◌, if◌then◌else◌, Option, Some, None}
use Rattle.shift_core.specs.declared.edit.Edit.{Edit}
use Rattle.shift_core.specs.declared.edit.Edit.TheVariants.{Insert, Delete, Move}
use Rattle.shift_core.specs.Form.{opposite}

-- an insert puts some lines before a line of the sheet; it may put more than the sheet has
abbrev pub IsSoundInsert : ℕ → ℕ → ℕ → Type 0
IsSoundInsert limit start count = (0 < count) × (start < limit)

-- a deletion takes some lines of the sheet
abbrev pub IsSoundDelete : ℕ → ℕ → ℕ → Type 0
IsSoundDelete limit start count = (0 < count) × (start + count ≤ limit)

-- the line `before` is not between `start` and `start + count`, both included
abbrev pub IsApart : ℕ → ℕ → ℕ → Type 0
IsApart start count before = (before < start) ⊎ (start + count < before)

-- a move takes some lines of the sheet before another line or to the sheet's end, not to where they are
abbrev pub IsSoundMove : ℕ → ℕ → ℕ → ℕ → Type 0
IsSoundMove limit start count before =
    (0 < count) × (start + count ≤ limit) × (before ≤ limit) × IsApart start count before

-- the edit fits the lines of a sheet, and isn't without effect
abbrev pub IsSoundEdit : ℕ → Edit → Type 0
IsSoundEdit limit (Insert start count) = IsSoundInsert limit start count
IsSoundEdit limit (Delete start count) = IsSoundDelete limit start count
IsSoundEdit limit (Move start count before) = IsSoundMove limit start count before

-- the line is one of the `count` lines from `start`
abbrev pub is_among : ℕ → ℕ → ℕ → Bool
is_among start count line = nat_le start line && nat_lt line (start + count)

-- an insert pushes the lines from `start` on; one that is pushed off the sheet is lost
abbrev pub line_after_insert : ℕ → ℕ → ℕ → ℕ → Option ℕ
line_after_insert limit start count line =
    if nat_lt line start then Some line
    else (if nat_lt (line + count) limit then Some (line + count) else None)

-- a deleted line is lost, and those after it close up
abbrev pub line_after_delete : ℕ → ℕ → ℕ → Option ℕ
line_after_delete start count line =
    if nat_lt line start then Some line
    else (if nat_lt line (start + count) then None else Some (line - count))

-- a move towards the end: the moved lines end before the line `before`, and those between close up
abbrev pub line_after_move_down : ℕ → ℕ → ℕ → ℕ → ℕ
line_after_move_down start count before line =
    if is_among start count line then line - start + (before - count)
    else (if nat_le (start + count) line && nat_lt line before then line - count else line)

-- a move towards the front: the moved lines begin at `before`, and those between make room
abbrev pub line_after_move_up : ℕ → ℕ → ℕ → ℕ → ℕ
line_after_move_up start count before line =
    if is_among start count line then line - start + before
    else (if nat_le before line && nat_lt line start then line + count else line)

-- no line is lost in a move
abbrev pub line_after_move : ℕ → ℕ → ℕ → ℕ → ℕ
line_after_move start count before line =
    if nat_lt (start + count) before then line_after_move_down start count before line
    else line_after_move_up start count before line

-- where an edit moves a line; a lost line has none
abbrev pub line_after : ℕ → Edit → ℕ → Option ℕ
line_after limit (Insert start count) line = line_after_insert limit start count line
line_after limit (Delete start count) line = line_after_delete start count line
line_after limit (Move start count before) line = Some (line_after_move start count before line)

-- which line an edit moved here, as the opposite edit moves it back: an inserted line was nowhere, and what
-- the last lines hold after a deletion came from nowhere on the sheet
abbrev pub line_before : ℕ → Edit → ℕ → Option ℕ
line_before limit edit line = line_after limit (opposite edit) line

-- a move takes the line to another place, or makes or closes room there
abbrev pub IsDisplaced : ℕ → ℕ → ℕ → ℕ → Type 0
IsDisplaced start count before line = line_after_move start count before line ≢ line
