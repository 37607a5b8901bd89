use Rattle.shift_core.specs.Form.{form_of}
use Rattle.touch_index.proofs.Staying.{cell_is_somewhere}
use Rattle.touch_index.proofs.laws.untouched_cells_stay.Goals as goal

pub returns : goal.returns
returns c = λ s old new p sound moved inside untouched. cell_is_somewhere (form_of s) old new p sound moved inside untouched
