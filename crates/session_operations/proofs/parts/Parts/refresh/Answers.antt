use Rattle.session_values.proofs.Shifting.{sessions_are_inside}
use Rattle.session_operations.specs.Seen.{state_of}
use Rattle.session_operations.proofs.parts.Parts.refresh.Goals as goal

pub refresh-requires-clause-inside : goal.refresh-requires-clause-inside
refresh-requires-clause-inside g c = sessions_are_inside (state_of c.args.self.now) c.requires.fits
