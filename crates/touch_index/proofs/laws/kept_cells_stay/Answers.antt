use Rattle.std.proofs.Common.{◌≡◌, subst, true}
use Rattle.shift_core.specs.Form.{form_of}
use Rattle.touch_index.specs.Kept.{keeps_cell}
use Rattle.touch_index.proofs.Staying.{cell_stays}
use Rattle.touch_index.proofs.laws.kept_cells_stay.Goals as goal

pub returns : goal.returns
returns c = λ x s old new p q n sound moved inside untouched goes kept.
    subst (λ spot. keeps_cell x spot n ≡ true) (cell_stays (form_of s) old new p q sound moved inside untouched goes) kept
