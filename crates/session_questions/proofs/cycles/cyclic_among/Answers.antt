use Rattle.session_operations.proofs.Shifting.{sessions_are_inside}
use Rattle.session_operations.specs.Seen.{state_of}
use Rattle.session_questions.proofs.cycles.cyclic_among.Goals as goal

pub on_cycle-requires-clause-inside : goal.on_cycle-requires-clause-inside
on_cycle-requires-clause-inside c = sessions_are_inside (state_of c.args.parts.now) c.requires.fits
