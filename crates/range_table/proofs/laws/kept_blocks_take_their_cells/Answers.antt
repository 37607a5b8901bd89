use Rattle.range_table.proofs.Moving.{takes_cells}
use Rattle.range_table.proofs.laws.kept_blocks_take_their_cells.Goals as goal

pub returns : goal.returns
returns c = takes_cells
