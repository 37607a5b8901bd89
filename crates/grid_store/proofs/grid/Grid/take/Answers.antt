use Rattle.std.proofs.Common.{◌∙◌, sym, ap, None, option_and_then}
use Rattle.grid_store.proofs.Views.{get-seen, get-seen_at, kept, remove-absent, seen-remove, standing_after}
use Rattle.grid_store.proofs.grid.Grid.take.Goals as goal

pub returns-in_err-key-clause-before : goal.returns-in_err-key-clause-before
returns-in_err-key-clause-before _ c =
    let g = c.args.self.now in
    c.from_residual.ensures ∙ sym (get-seen g.rows g.cols g.cells.entries c.args.at ∙ ap (option_and_then (kept g.cells.entries)) (sym c.in_err-key.ensures))

pub returns-in_err-key-clause-taken : goal.returns-in_err-key-clause-taken
returns-in_err-key-clause-taken _ c = let g = c.args.self.now in remove-absent g.rows g.cols g.cells.entries c.args.at (sym c.in_err-key.ensures)

pub invariant_of-self : goal.invariant_of-self
invariant_of-self _ c =
    let g = c.args.self.now in record {
      rows_limit = g.rows_limit;
      cols_limit = g.cols_limit;
      standing = standing_after g.rows g.cols g.cells.entries c.remove.new.self.entries c.in_ok-key.key None c.remove.ensures.updates.0 (λ bad. cc) g.standing;
    }

pub returns-clause-before : goal.returns-clause-before
returns-clause-before _ c =
    let g = c.args.self.now in c.remove.ensures.value ∙ sym (get-seen_at g.rows g.cols g.cells.entries c.args.at c.in_ok-key.key (sym c.in_ok-key.ensures))

pub returns-clause-taken : goal.returns-clause-taken
returns-clause-taken _ c =
    let g = c.args.self.now in
    seen-remove g.rows g.cols g.cells.entries c.remove.new.self.entries c.args.at c.in_ok-key.key (sym c.in_ok-key.ensures) c.remove.ensures.updates.0
