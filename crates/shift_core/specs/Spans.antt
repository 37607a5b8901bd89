-- What an edit does to the first and the last line of a block. Source: this project's own.
use Rattle.std.specs.Prelude.{ℕ, ◌≤◌, ◌+◌, ◌-◌, min, nat_lt, ◌&&◌, if◌then◌else◌, Option, Some, None, option_map, option_and_then}
use Rattle.cell_addr.specs.declared.axis.Span.{Span}
use Rattle.shift_core.specs.declared.edit.Edit.{Edit}
use Rattle.shift_core.specs.declared.edit.Edit.TheVariants.{Insert, Delete, Move}
use Rattle.shift_core.specs.Form.{opposite, IsWithin}
use Rattle.shift_core.specs.Lines.{IsDisplaced, is_among, line_after_move, line_before}

-- where an insert pushes a line, as if the sheet had no edge
abbrev pub pushed_line : ℕ → ℕ → ℕ → ℕ
pushed_line start count line = if nat_lt line start then line else line + count

-- the first line of a block after a deletion: one in the deleted span becomes the line that takes its place
abbrev pub first_left : ℕ → ℕ → ℕ → ℕ
first_left start count line =
    if nat_lt line start then line
    else (if nat_lt line (start + count) then start else line - count)

-- one more than the last line of a block after a deletion: a last line in the deleted span becomes start - 1
abbrev pub end_left : ℕ → ℕ → ℕ → ℕ
end_left start count line =
    if nat_lt line start then line + 1
    else (if nat_lt line (start + count) then start else line + 1 - count)

-- where the old lines of a move stand once room was made for them at `before`
abbrev pub old_start : ℕ → ℕ → ℕ → ℕ
old_start start count before = if nat_lt (start + count) before then start else start + count

-- both ends pushed, as if the sheet had no edge
abbrev pub pushed_span : ℕ → ℕ → Span → Span
pushed_span start count s =
    record { first = pushed_line start count s.first; last = pushed_line start count s.last }

-- an insert pushes both ends; lost where the first is pushed off the sheet, cut where only the last is
abbrev pub span_after_insert : ℕ → ℕ → ℕ → Span → Option Span
span_after_insert limit start count s =
    if nat_lt (pushed_line start count s.first) limit
    then Some (record { first = pushed_line start count s.first; last = min (pushed_line start count s.last) (limit - 1) })
    else None

-- a deletion draws the ends together; lost where the first end is then after the last
abbrev pub span_after_delete : ℕ → ℕ → Span → Option Span
span_after_delete start count s =
    if nat_lt (first_left start count s.first) (end_left start count s.last)
    then Some (record { first = first_left start count s.first; last = end_left start count s.last - 1 })
    else None

-- a block of moved lines follows them; another has its ends as by an insert of as many lines at `before`,
-- without an edge, and then by a deletion of the old lines
abbrev pub span_after_move : ℕ → ℕ → ℕ → Span → Option Span
span_after_move start count before s =
    if is_among start count s.first && is_among start count s.last
    then Some (record { first = line_after_move start count before s.first; last = line_after_move start count before s.last })
    else span_after_delete (old_start start count before) count (pushed_span before count s)

-- both ends by one rule; none where an end has none
abbrev pub both_ends : (ℕ → Option ℕ) → Span → Option Span
both_ends rule s =
    option_and_then (λ first. option_map (λ last. record { first = first; last = last }) (rule s.last)) (rule s.first)

-- where an edit moves the ends of a block; a lost block has none
abbrev pub span_after : ℕ → Edit → Span → Option Span
span_after limit (Insert start count) s = span_after_insert limit start count s
span_after limit (Delete start count) s = span_after_delete start count s
span_after limit (Move start count before) s = span_after_move start count before s

-- which ends an edit moved here: backward over a move as by the opposite move, else each end by itself
abbrev pub span_before : ℕ → Edit → Span → Option Span
span_before limit (Move start count before) s = span_after limit (opposite (Move start count before)) s
span_before limit edit s = both_ends (line_before limit edit) s

-- a line of the block is displaced by the edit, which is a move
abbrev pub Displaces : Edit → Span → Type 0
Displaces (Move start count before) s = (line : ℕ) × IsWithin s line × IsDisplaced start count before line
Displaces _ s = ⊥

-- the edit is an insert that pushes the last line of the block off the sheet
abbrev pub PushesOff : ℕ → Edit → Span → Type 0
PushesOff limit (Insert start count) s = limit ≤ pushed_line start count s.last
PushesOff limit _ s = ⊥
