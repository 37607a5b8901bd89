use Rattle.shift_core.proofs.BlockLaws.{move_lines_ends}
use Rattle.shift_core.proofs.laws.moved_blocks_end_at_their_lines.Goals as goal

pub returns : goal.returns
returns c = move_lines_ends
