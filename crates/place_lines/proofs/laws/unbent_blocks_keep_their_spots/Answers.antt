use Rattle.shift_core.specs.Form.{form_of}
use Rattle.place_lines.proofs.Carried.{carried_area, carried_spots}
use Rattle.place_lines.proofs.laws.unbent_blocks_keep_their_spots.Goals as goal

pub returns : goal.returns
returns c = λ s old new b after sound moved none inside still whole moves. (
  carried_area (form_of s) old new b after (record { sound = sound; none = none; inside = inside; still = still; whole = whole; moves = moves }) moved,
  λ q. carried_spots (form_of s) old new b after q (record { sound = sound; none = none; inside = inside; still = still; whole = whole; moves = moves }) moved,
)
