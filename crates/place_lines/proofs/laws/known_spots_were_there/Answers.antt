use Rattle.shift_core.specs.Form.{form_of}
use Rattle.place_lines.proofs.Known.{spot_known, spot_was_there, stays_known}
use Rattle.place_lines.proofs.laws.known_spots_were_there.Goals as goal

pub returns : goal.returns
returns c = (
  spot_known,
  λ s. stays_known (form_of s),
  λ s old new q moved known. let w = spot_was_there (form_of s) old new q moved known in (w.0, w.1),
)
