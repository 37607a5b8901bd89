use Rattle.kept_steps.proofs.Outcomes.{same_batch, unchanged}
use Rattle.kept_steps.proofs.session.Session.catch_up.Goals as goal

pub invariant_of-self : goal.invariant_of-self
invariant_of-self c =
    let s = c.args.self.now in
    record { fits = (unchanged s.book c.catch_up.new.self s.steps s.batch s.batch s.suspended s.next_sheet s.fits c.catch_up.ensures.same (same_batch s.batch)).0 }

pub returns-clause-state : goal.returns-clause-state
returns-clause-state c =
    let s = c.args.self.now in
    (unchanged s.book c.catch_up.new.self s.steps s.batch s.batch s.suspended s.next_sheet s.fits c.catch_up.ensures.same (same_batch s.batch)).1
