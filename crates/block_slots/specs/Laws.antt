-- Laws of segments.
use Rattle.std.specs.Prelude.{ℕ, ◌+◌, ◌*◌, ◌^◌, ◌<◌, ◌≤◌, ◌↔◌, IsTrue}
use Rattle.block_slots.specs.Segments.{has_line}
use Rattle.block_slots.specs.declared.segment.Segment.{Segment}

-- the lines of a segment follow one another: a power of two of them, from a multiple of it on
abbrev pub SegmentsAreAligned : Type 0
SegmentsAreAligned = (s : Segment) (line : ℕ) → IsTrue (has_line s line) ↔ ((s.index * 2 ^ s.level ≤ line) × (line < s.index * 2 ^ s.level + 2 ^ s.level))
