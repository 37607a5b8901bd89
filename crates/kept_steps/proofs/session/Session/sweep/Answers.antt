use Rattle.std.specs.HashSet.{contains}
use Rattle.std.specs.Prelude.{nat_eq}
use Rattle.kept_steps.proofs.Swept.{kept-where, swept}
use Rattle.kept_steps.proofs.session.Session.sweep.Goals as goal

pub invariant_of-self : goal.invariant_of-self
invariant_of-self c =
    let s = c.args.self.now in
    let after = swept s.book c.keep_only.new.book s.steps s.batch s.suspended s.next_sheet s.fits
    (λ id used. kept-where s.book.lazy c.keep_only.new.book.lazy (contains nat_eq c.in_ok-ids.ids) c.keep_only.ensures.kept id (c.in_ok-ids.ensures id used)) c.keep_only.ensures.line c.keep_only.ensures.frame c.keep_only.ensures.names in
    record { fits = after.0 }

pub returns-clause-state : goal.returns-clause-state
returns-clause-state c =
    let s = c.args.self.now in
    let after = swept s.book c.keep_only.new.book s.steps s.batch s.suspended s.next_sheet s.fits
    (λ id used. kept-where s.book.lazy c.keep_only.new.book.lazy (contains nat_eq c.in_ok-ids.ids) c.keep_only.ensures.kept id (c.in_ok-ids.ensures id used)) c.keep_only.ensures.line c.keep_only.ensures.frame c.keep_only.ensures.names in
    after.1
