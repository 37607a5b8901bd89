use Rattle.shift_core.specs.Form.{form_of}
use Rattle.shift_core.proofs.Opposites.{back_sound, form_of_opposite}
use Rattle.shift_core.proofs.laws.opposites_are_sound.Goals as goal

pub returns : goal.returns
returns c = λ s back sound e. back_sound (form_of s) (form_of back) sound (form_of_opposite s back e)
