-- Lines cut into aligned segments, each as long as a power of two. Source: the canonical segments of a segment tree.
use Rattle.std.specs.Prelude.{ℕ, ◌/◌, ◌^◌, ◌==◌, ◌&&◌, nat_le, nat_lt, Bool, List, if◌then◌else◌}
use Rattle.std.specs.List.{count_by}
use Rattle.std.specs.declared.ops.Range.{Range}
use Rattle.block_slots.specs.declared.segment.Segment.{Segment}

-- the segment of a level at a line
abbrev pub segment_at : ℕ → ℕ → Segment
segment_at level line = record { level = level; index = line / 2 ^ level }

-- the line is one of the segment's
abbrev pub has_line : Segment → ℕ → Bool
has_line s line = line / 2 ^ s.level == s.index

-- in how many of the segments the line is
abbrev pub segments_with : List Segment → ℕ → ℕ
segments_with segments line = count_by (λ s. has_line s line) segments

-- the line is one of the range, whose end isn't
abbrev pub in_lines : Range ℕ → ℕ → Bool
in_lines lines line = nat_le lines.start line && nat_lt line lines.end

-- once where it is so, else not at all
abbrev pub one_if : Bool → ℕ
one_if is_so = if is_so then 1 else 0
