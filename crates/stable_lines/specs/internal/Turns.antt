-- Turns: two bands of lines side by side change places. Every edit is a turn of the lines of the sheet and of fresh lines
-- behind them, of which those that come to stand past the sheet's end are lost.
use Rattle.std.specs.Prelude.{ℕ, ◌+◌, ◌-◌, ◌<◌, ◌≤◌, ◌^◌, ⊤, nat_lt, min, if◌then◌else◌, List, [], ◌∷◌, ◌++◌}
use Rattle.shift_core.specs.Lines.{IsSoundMove}
use Rattle.shift_core.specs.declared.edit.Edit.{Edit}
use Rattle.shift_core.specs.declared.edit.Edit.TheVariants.{Insert, Delete, Move}
use Rattle.stable_lines.specs.declared.run.Run.{Run}
use Rattle.stable_lines.specs.declared.turn.Turn.{Turn}
use Rattle.stable_lines.specs.internal.Tables.{composed}

-- if the edit is a move, it is a sound one
abbrev pub MovesSoundly : ℕ → Edit → Type 0
MovesSoundly limit (Move start count before) = IsSoundMove limit start count before
MovesSoundly limit _ = ⊤

-- the bands are in order, and their numbers have 40 bits
abbrev pub IsTurn : Turn → Type 0
IsTurn t = (t.first ≤ t.middle) × (t.middle ≤ t.last) × (t.last ≤ t.end) × (t.end < 2 ^ 40)

-- where each number goes as the bands change places
abbrev pub swaps : Turn → List Run
swaps t =
    record { from = 0; to = 0; count = t.first }
    ∷ record { from = t.first; to = t.first + (t.last - t.middle); count = t.middle - t.first }
    ∷ record { from = t.middle; to = t.first; count = t.last - t.middle }
    ∷ record { from = t.last; to = t.last; count = t.end - t.last }
    ∷ []

-- the turn that takes another back
abbrev pub turned_back : Turn → Turn
turned_back t = record t { middle = t.first + (t.last - t.middle) }

-- how many lines there are of `count` from `at` on
abbrev pub room : ℕ → ℕ → ℕ → ℕ
room limit at count = min count (limit - min at limit)

-- fresh lines come before the line `at`
abbrev pub turn_of_insert : ℕ → ℕ → ℕ → Turn
turn_of_insert limit at count =
    record { first = min at limit; middle = limit; last = limit + room limit at count; end = limit + room limit at count }

-- the lines from `at` go behind the others and as many fresh ones
abbrev pub turn_of_delete : ℕ → ℕ → ℕ → Turn
turn_of_delete limit at count =
    record { first = min at limit; middle = min at limit + room limit at count; last = limit + room limit at count; end = limit + room limit at count }

-- the moved lines change places with those that they are moved over
abbrev pub turn_of_move : ℕ → ℕ → ℕ → ℕ → Turn
turn_of_move limit start count before =
    if nat_lt (start + count) before
    then record { first = start; middle = start + count; last = before; end = limit }
    else record { first = before; middle = start; last = start + count; end = limit }

abbrev pub turn_of_edit : ℕ → Edit → Turn
turn_of_edit limit (Insert at count) = turn_of_insert limit at count
turn_of_edit limit (Delete at count) = turn_of_delete limit at count
turn_of_edit limit (Move start count before) = turn_of_move limit start count before

abbrev pub turn_back : ℕ → Edit → Turn
turn_back limit (Insert at count) = turn_of_delete limit at count
turn_back limit (Delete at count) = turn_of_insert limit at count
turn_back limit (Move start count before) = turned_back (turn_of_move limit start count before)

-- the lines of the sheet as they are
abbrev pub whole : ℕ → Run
whole limit = record { from = 0; to = 0; count = limit }

-- fresh lines, behind those of the sheet, and where they stand
abbrev pub fresh : ℕ → ℕ → ℕ → Run
fresh limit next room = record { from = limit; to = next; count = room }

abbrev pub fresh_back : ℕ → ℕ → ℕ → Run
fresh_back limit next room = record { from = next; to = limit; count = room }

-- the lines at the positions of the sheet once they and the fresh ones took a turn
abbrev pub new_lines : ℕ → ℕ → ℕ → Turn → List Run → List Run
new_lines limit next room t lines = composed (composed (whole limit ∷ []) (swaps (turned_back t))) (lines ++ fresh limit next room ∷ [])

-- where the lines stand then
abbrev pub new_positions : ℕ → ℕ → ℕ → Turn → List Run → List Run
new_positions limit next room t positions = composed (positions ++ fresh_back limit next room ∷ []) (composed (swaps t) (whole limit ∷ []))
