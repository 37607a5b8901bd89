use Rattle.shift_core.specs.Form.{form_of}
use Rattle.shift_core.proofs.BlockLaws.{one_cell_moves}
use Rattle.shift_core.proofs.laws.one_cells_move_alike.Goals as goal

pub returns : goal.returns
returns c = λ s. one_cell_moves (form_of s)
