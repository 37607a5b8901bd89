use Rattle.shift_core.specs.Form.{form_of}
use Rattle.shift_core.proofs.PlaceLaws.{place_moved_apart}
use Rattle.shift_core.proofs.laws.no_two_meet.Goals as goal

pub returns : goal.returns
returns c = λ s. place_moved_apart (form_of s)
