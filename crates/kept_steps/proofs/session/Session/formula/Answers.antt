use Rattle.std.proofs.Common.{inl, refl}
use Rattle.std.specs.FinMap as fin
use Rattle.grid_store.specs.Grid.{cells_of}
use Rattle.kept_book.proofs.Looked.{id-cell}
use Rattle.kept_steps.proofs.Outcomes.{same_batch, unchanged}
use Rattle.kept_steps.proofs.session.Session.formula.Goals as goal

pub invariant_of-self : goal.invariant_of-self
invariant_of-self c =
    let s = c.args.self.now in
    record { fits = (unchanged s.book c.formula.new.self s.steps s.batch s.batch s.suspended s.next_sheet s.fits c.formula.ensures.same (same_batch s.batch)).0 }

pub returns-clause-state : goal.returns-clause-state
returns-clause-state c =
    let s = c.args.self.now in
    (unchanged s.book c.formula.new.self s.steps s.batch s.batch s.suspended s.next_sheet s.fits c.formula.ensures.same (same_batch s.batch)).1

pub returns-clause-reads : goal.returns-clause-reads
returns-clause-reads c =
    let s = c.args.self.now in
    record {
      state = (unchanged s.book c.formula.new.self s.steps s.batch s.batch s.suspended s.next_sheet s.fits c.formula.ensures.same (same_batch s.batch)).1;
      line = c.formula.ensures.line;
      standings = c.formula.ensures.same.standings;
      kept = λ id unused. c.formula.ensures.kept id (λ here. unused (inl (c.args.at, id-cell (fin.get (cells_of s.book.grid) c.args.at) id here)));
      grid = c.formula.ensures.grid;
      names = c.formula.ensures.names;
      next_id = c.formula.ensures.next;
      steps = refl;
      batch = refl;
      suspended = refl;
      next_sheet = refl;
      sweep_at = refl;
    }
