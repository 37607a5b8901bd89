-- Whole ranges and their blocks. Serves the block of a whole range, and the laws of whole ranges.
use Rattle.std.proofs.Common.{◌≡◌, ◌↔◌, refl, arith, ℕ, ◌<◌, ◌≤◌}
use Rattle.cell_addr.specs.declared.axis.Axis.{Axis}
use Rattle.cell_addr.specs.declared.axis.Axis.TheVariants.{Rows, Cols}
use Rattle.cell_addr.specs.declared.place.Place.{Place}
use Rattle.cell_addr.specs.declared.whole.Whole.{Whole}
use Rattle.cell_addr.specs.Axis.{limit_of, line_of}
use Rattle.cell_addr.specs.Laws.{WholesCoverTheirLines}
use Rattle.cell_addr.specs.Place.{IsInside, IsBlockInside, Covers}
use Rattle.cell_addr.specs.Whole.{IsWholeInside, whole_block, whole_of}

-- the whole range along an axis
abbrev pub along : Axis → ℕ → ℕ → ℕ → Whole
along axis sheet first last = record { sheet = sheet; axis = axis; first = first; last = last }

inside-along : (axis : Axis) (sheet first last : ℕ) → first ≤ last → last < limit_of axis → IsBlockInside (whole_block (along axis sheet first last))
inside-along Rows sheet first last o l = (o, l, omega arith, omega arith)
inside-along Cols sheet first last o l = (omega arith, omega arith, o, l)

-- the block of a whole range that is inside is inside
pub whole_block-inside : (w : Whole) → IsWholeInside w → IsBlockInside (whole_block w)
whole_block-inside w i = inside-along w.axis w.sheet w.first w.last i.0 i.1

back-along : (axis : Axis) (sheet first last : ℕ) → whole_of axis (whole_block (along axis sheet first last)) ≡ along axis sheet first last
back-along Rows sheet first last = refl
back-along Cols sheet first last = refl

-- a whole range is that of its block's lines
pub whole_of-whole_block : (w : Whole) → whole_of w.axis (whole_block w) ≡ w
whole_of-whole_block w = back-along w.axis w.sheet w.first w.last

covers-along : (axis : Axis) (sheet first last : ℕ) (p : Place) → IsInside p
    → Covers (whole_block (along axis sheet first last)) p ↔ ((sheet ≡ p.sheet) × (first ≤ line_of axis p) × (line_of axis p ≤ last))
covers-along Rows sheet first last p i = (λ c. (c.0, c.1, c.2), λ h. (h.0, h.1, h.2, omega arith, omega arith))
covers-along Cols sheet first last p i = (λ c. (c.0, c.3, c.4), λ h. (h.0, omega arith, omega arith, h.1, h.2))

pub wholes-cover_their_lines : WholesCoverTheirLines
wholes-cover_their_lines w p i = covers-along w.axis w.sheet w.first w.last p i
