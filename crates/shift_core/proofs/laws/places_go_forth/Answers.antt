use Rattle.shift_core.specs.Form.{form_of}
use Rattle.shift_core.proofs.PlaceLaws.{place_returned_goes}
use Rattle.shift_core.proofs.laws.places_go_forth.Goals as goal

pub returns : goal.returns
returns c = λ s. place_returned_goes (form_of s)
