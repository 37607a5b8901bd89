use Rattle.shift_core.specs.Form.{form_of}
use Rattle.shift_core.proofs.PlaceLaws.{place_moved_inside, place_returned_inside}
use Rattle.shift_core.proofs.laws.places_stay_inside.Goals as goal

pub returns : goal.returns
returns c = λ s p q sound i. (place_moved_inside (form_of s) p q sound i, place_returned_inside (form_of s) q p sound i)
