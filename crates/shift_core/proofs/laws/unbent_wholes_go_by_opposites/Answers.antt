use Rattle.shift_core.specs.Form.{form_of}
use Rattle.shift_core.proofs.Opposites.{form_of_opposite}
use Rattle.shift_core.proofs.WholeMoves.{whole_goes_back}
use Rattle.shift_core.proofs.laws.unbent_wholes_go_by_opposites.Goals as goal

pub returns : goal.returns
returns c = λ s back w after sound e i still h. whole_goes_back (form_of s) (form_of back) w after sound (form_of_opposite s back e) i still h
