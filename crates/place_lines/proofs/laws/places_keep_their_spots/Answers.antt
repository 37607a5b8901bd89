use Rattle.shift_core.specs.Form.{form_of}
use Rattle.place_lines.proofs.Carried.{spot_stays}
use Rattle.place_lines.proofs.laws.places_keep_their_spots.Goals as goal

pub returns : goal.returns
returns c = λ s old new p q sound moved none inside goes. spot_stays (form_of s) old new p q sound none moved inside goes
