use Rattle.shift_core.specs.Form.{form_of}
use Rattle.touch_index.proofs.Staying.{block_kept}
use Rattle.touch_index.proofs.laws.kept_blocks_stay.Goals as goal

pub returns : goal.returns
returns c = λ x s old new b after n sound moved inside untouched goes kept. block_kept (form_of s) x old new b after n sound moved inside untouched goes kept
