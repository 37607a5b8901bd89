use Rattle.std.proofs.Common.{inr, refl}
use Rattle.name_table.specs.Scopes.{key_of}
use Rattle.kept_steps.proofs.Outcomes.{same_batch, unchanged}
use Rattle.kept_steps.proofs.session.Session.named.Goals as goal

pub invariant_of-self : goal.invariant_of-self
invariant_of-self c =
    let s = c.args.self.now in
    record { fits = (unchanged s.book c.named.new.self s.steps s.batch s.batch s.suspended s.next_sheet s.fits c.named.ensures.same (same_batch s.batch)).0 }

pub returns-clause-state : goal.returns-clause-state
returns-clause-state c =
    let s = c.args.self.now in
    (unchanged s.book c.named.new.self s.steps s.batch s.batch s.suspended s.next_sheet s.fits c.named.ensures.same (same_batch s.batch)).1

pub returns-clause-reads : goal.returns-clause-reads
returns-clause-reads c =
    let s = c.args.self.now in
    record {
      state = (unchanged s.book c.named.new.self s.steps s.batch s.batch s.suspended s.next_sheet s.fits c.named.ensures.same (same_batch s.batch)).1;
      line = c.named.ensures.line;
      standings = c.named.ensures.same.standings;
      kept = λ id unused. c.named.ensures.kept id (λ here. unused (inr (key_of c.args.scope c.args.word, here)));
      grid = c.named.ensures.grid;
      names = c.named.ensures.names;
      next_id = c.named.ensures.next;
      steps = refl;
      batch = refl;
      suspended = refl;
      next_sheet = refl;
      sweep_at = refl;
    }
