use Rattle.shift_core.specs.Form.{form_of}
use Rattle.shift_core.proofs.Opposites.{form_of_opposite, place_goes_back}
use Rattle.shift_core.proofs.laws.places_go_by_opposites.Goals as goal

pub returns : goal.returns
returns c = λ s back p sound e i. place_goes_back (form_of s) (form_of back) p sound (form_of_opposite s back e) i
