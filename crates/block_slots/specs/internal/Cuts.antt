-- Steps of cutting lines into segments and blocks into slots.
use Rattle.std.specs.Prelude.{◌≡◌, ℕ, ◌+◌, ◌*◌, ◌-◌, ◌/◌, ◌^◌, ◌<◌, ◌≤◌, List, length, map}
use Rattle.std.specs.List.{flat_map}
use Rattle.std.specs.declared.ops.Range.{Range}
use Rattle.block_slots.specs.Segments.{segments_with, in_lines, one_if}
use Rattle.block_slots.specs.declared.segment.Segment.{Segment}
use Rattle.block_slots.specs.declared.slot.Slot.{Slot}

-- at most one segment of a level is taken from the rest, and what is left has the other indexes
pub record Takes (level : ℕ) (rest : Range ℕ) (old new : List Segment) (left : Range ℕ) : Type 0 where
  pub exact : (line : ℕ) → segments_with new line + one_if (in_lines left (line / 2 ^ level)) ≡ segments_with old line + one_if (in_lines rest (line / 2 ^ level))
  pub few : length new ≤ length old + 1
  pub order : left.start ≤ left.end
  pub less : left.end - left.start ≤ rest.end - rest.start

-- the lines are cut up to a level, and the rest is said in indexes at that level
pub record AreCut (lines : Range ℕ) (level : ℕ) (found : List Segment) (rest : Range ℕ) : Type 0 where
  pub exact : (line : ℕ) → segments_with found line + one_if (in_lines rest (line / 2 ^ level)) ≡ one_if (in_lines lines line)
  pub few : length found ≤ 2 * level
  pub left : (rest.end - rest.start) * 2 ^ level ≤ lines.end - lines.start
  pub low : (k : ℕ) → lines.end - lines.start < 2 ^ k → level ≤ k

-- the slot of these rows and these columns
abbrev pub slot_of : Segment → Segment → Slot
slot_of rows cols = record { rows = rows; cols = cols }

-- the slots of each segment of rows with each of columns
abbrev pub crossed : List Segment → List Segment → List Slot
crossed rows cols = flat_map (λ r. map (slot_of r) cols) rows
