-- The lines of places and blocks along one axis of a sheet, its rows or its columns. Source: this
-- project's own.
use Rattle.std.specs.Prelude.{ℕ, Bool, true, false}
use Rattle.cell_addr.specs.declared.axis.Axis.{Axis}
use Rattle.cell_addr.specs.declared.axis.Axis.TheVariants.{Rows, Cols}
use Rattle.cell_addr.specs.declared.axis.Span.{Span}
use Rattle.cell_addr.specs.declared.place.Place.{Place}
use Rattle.cell_addr.specs.declared.place.Block.{Block}
use Rattle.cell_addr.specs.declared.place.TheConstants.{ROWS, COLS}

-- the other axis
abbrev pub across : Axis → Axis
across Rows = Cols
across Cols = Rows

-- the test whether two axes are the same
abbrev pub same_axis : Axis → Axis → Bool
same_axis Rows Rows = true
same_axis Cols Cols = true
same_axis a b = false

-- how many such lines a sheet has
abbrev pub limit_of : Axis → ℕ
limit_of Rows = ROWS
limit_of Cols = COLS

-- the line of a place along the axis
abbrev pub line_of : Axis → Place → ℕ
line_of Rows p = p.row
line_of Cols p = p.col

-- the place with this line along the axis
abbrev pub with_line : Axis → ℕ → Place → Place
with_line Rows line p = record p { row = line }
with_line Cols line p = record p { col = line }

-- the lines of a block along the axis, by the first and the last
abbrev pub span_of : Axis → Block → Span
span_of Rows b = record { first = b.top; last = b.bottom }
span_of Cols b = record { first = b.left; last = b.right }

-- the block with these lines along the axis
abbrev pub with_span : Axis → Span → Block → Block
with_span Rows span b = record b { top = span.first; bottom = span.last }
with_span Cols span b = record b { left = span.first; right = span.last }
