use Rattle.session_operations.proofs.Shifting.{sessions_are_inside}
use Rattle.session_operations.specs.Seen.{state_of}
use Rattle.session_questions.proofs.links.users.Goals as goal

pub users-requires-clause-inside : goal.users-requires-clause-inside
users-requires-clause-inside c = sessions_are_inside (state_of c.args.parts.now) c.requires.fits
