-- Numbers at spots, by the one line and then by the other, and how far they are found.
use Rattle.std.specs.Prelude.{◌≡◌, ◌&&◌, ℕ, Bool, true, List}
use Rattle.std.specs.BTreeMap.Range.{range_contains}
use Rattle.std.specs.BTreeSet.{contains}
use Rattle.std.specs.Ordering.{nat_cmp, ordering_then}
use Rattle.std.specs.declared.cmp.Ordering.{Ordering}
use Rattle.std.specs.declared.ops.Bound.TheVariants.{Included, Excluded}
use Rattle.std.specs.declared.ops.Range.{Range}
use Rattle.block_index.specs.Index.{finds}
use Rattle.block_index.specs.declared.index.BlockIndex.{BlockIndex}
use Rattle.cell_addr.specs.declared.axis.Axis.{Axis}
use Rattle.cell_addr.specs.declared.axis.Axis.TheVariants.{Cols, Rows}
use Rattle.needs_order.specs.Needs.{has}
use Rattle.place_lines.specs.Spots.{in_runs}
use Rattle.place_lines.specs.declared.spot.LineSpot.{LineSpot}
use Rattle.touch_index.specs.declared.point.Point.{Point}
use Rattle.touch_index.specs.declared.points.Points.{Points}

-- by sheet, then by line, then by the line of the other axis, then by number, as the derived order compares points
abbrev pub point_cmp : Point → Point → Ordering
point_cmp a b = ordering_then (nat_cmp a.sheet b.sheet) (ordering_then (nat_cmp a.line b.line) (ordering_then (nat_cmp a.across b.across) (nat_cmp a.number b.number)))

-- the line of a spot along the axis
abbrev pub line_in : Axis → LineSpot → ℕ
line_in Rows spot = spot.row
line_in Cols spot = spot.col

-- the line of a spot along the other axis
abbrev pub line_over : Axis → LineSpot → ℕ
line_over Rows spot = spot.col
line_over Cols spot = spot.row

-- the point of a number at a spot, by the line along the axis
abbrev pub point_along : Axis → LineSpot → ℕ → Point
point_along axis spot n = record { sheet = spot.sheet; line = line_in axis spot; across = line_over axis spot; number = n }

-- the first point of a line that is on a line of the other axis or after it
abbrev pub first_point : ℕ → ℕ → ℕ → Point
first_point sheet line across = record { sheet = sheet; line = line; across = across; number = 0 }

-- the number is kept at the spot
abbrev pub has_point : Points → LineSpot → ℕ → Bool
has_point points spot n = contains point_cmp points.by_rows (point_along Rows spot n) && contains point_cmp points.by_cols (point_along Cols spot n)

-- the point is the first one or after it, and before the end
abbrev pub is_between : Point → Point → Point → Bool
is_between first end p = range_contains point_cmp (Included first) (Excluded end) p

-- what was found is found still
abbrev pub StillFound : List ℕ → List ℕ → Type 0
StillFound old new = (n : ℕ) → has n old ≡ true → has n new ≡ true

-- each row of the one column finds still what it found
abbrev pub FindsStill : BlockIndex → BlockIndex → Type 0
FindsStill old new = (sheet row n : ℕ) → finds old sheet row 0 n ≡ true → finds new sheet row 0 n ≡ true

-- each line in one of the runs finds the number
abbrev pub FilesRuns : BlockIndex → ℕ → List (Range ℕ) → ℕ → Type 0
FilesRuns x sheet runs n = (line : ℕ) → in_runs runs line ≡ true → finds x sheet line 0 n ≡ true
