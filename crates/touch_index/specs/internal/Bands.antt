-- The lines that an edit touches.
use Rattle.std.specs.Prelude.{ℕ, ◌+◌, ◌-◌, min, max, Option, Some, None}
use Rattle.cell_addr.specs.declared.axis.Span.{Span}
use Rattle.shift_core.specs.declared.edit.Edit.{Edit}
use Rattle.shift_core.specs.declared.edit.Edit.TheVariants.{Insert, Delete, Move}

-- a block that begins on one of these lines is touched: they are pushed off, deleted or displaced
abbrev pub started_span : ℕ → Edit → Span
started_span limit (Insert start count) = record { first = max start (limit - count); last = limit - 1 }
started_span limit (Delete start count) = record { first = start; last = start + count - 1 }
started_span limit (Move start count before) = record { first = min start before; last = max (start + count) before - 1 }

-- the lines that are lost; a move loses none
abbrev pub lost_span : ℕ → Edit → Option Span
lost_span limit (Move start count before) = None
lost_span limit edit = Some (started_span limit edit)

-- the line before which others are put, and else the first of those lines
abbrev pub gap_of : Edit → ℕ
gap_of (Insert start count) = start
gap_of (Delete start count) = start
gap_of (Move start count before) = min start before
