use Rattle.shift_core.specs.Form.{form_of}
use Rattle.shift_core.proofs.PlaceLaws.{place_moved_returns}
use Rattle.shift_core.proofs.laws.places_come_back.Goals as goal

pub returns : goal.returns
returns c = λ s. place_moved_returns (form_of s)
