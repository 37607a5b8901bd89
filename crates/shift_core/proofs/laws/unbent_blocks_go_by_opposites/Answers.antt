use Rattle.shift_core.specs.Form.{form_of}
use Rattle.shift_core.proofs.Opposites.{block_goes_back, form_of_opposite}
use Rattle.shift_core.proofs.laws.unbent_blocks_go_by_opposites.Goals as goal

pub returns : goal.returns
returns c = λ s back b after sound e i still whole h. block_goes_back (form_of s) (form_of back) b after sound (form_of_opposite s back e) i still whole h
