use Rattle.engine_face.specs.Session.{Settles}
use Rattle.engine_face.proofs.session.Session.settle_idle.Goals as goal

pub returns-in-Ok-clause-does : goal.returns-in-Ok-clause-does
unfolding Settles
returns-in-Ok-clause-does c = (c.in-Ok.ensures.placed, c.in-Ok.ensures.budget)

pub returns-in-Ok-clause-told : goal.returns-in-Ok-clause-told
returns-in-Ok-clause-told c = (c.in-Ok.all, c.truth_bit.ensures, c.in-Ok.ensures.all)
