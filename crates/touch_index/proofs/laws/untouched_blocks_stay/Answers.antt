use Rattle.shift_core.specs.Form.{form_of}
use Rattle.touch_index.proofs.Staying.{block_is_somewhere}
use Rattle.touch_index.proofs.laws.untouched_blocks_stay.Goals as goal

pub returns : goal.returns
returns c = λ s old new b sound moved inside untouched. block_is_somewhere (form_of s) old new b sound moved inside untouched
