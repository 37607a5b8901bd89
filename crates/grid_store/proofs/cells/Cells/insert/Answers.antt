use Rattle.std.proofs.Common.{◌∙◌, sym, ap, Some}
use Rattle.std.specs.BTreeMap as tree
use Rattle.grid_store.specs.Keys.{key_cmp}
use Rattle.grid_store.proofs.TurnedKeys.{on_err, turned-absent, turned-again, turned-changed}
use Rattle.grid_store.proofs.cells.Cells.insert.Goals as goal

pub returns-in_err-fresh-clause-absent : goal.returns-in_err-fresh-clause-absent
returns-in_err-fresh-clause-absent _ c =
    let s = c.self.inside in
    let absent = turned-absent s.by_rows s.by_cols c.args.key c.turned-turned.result c.turned-turned.ensures c.self.invariant c.in_err-fresh.ensures.absent in
    on_err c.from_residual.result (ap (λ m. tree.get key_cmp m c.args.key) (sym c.self.view_is) ∙ absent)

pub invariant_of-self-in-Ok : goal.invariant_of-self-in-Ok
invariant_of-self-in-Ok _ c =
    let s = c.self.inside in
    turned-changed s.by_rows c.insert-2.new.self s.by_cols c.insert.new.self c.args.key c.turned-turned.result (Some c.args.cell) c.turned-turned.ensures c.self.invariant c.in_ok-fresh.ensures.updates.0 c.in-Ok.ensures.updates.0

pub invariant_of-self-then-fresh : goal.invariant_of-self-then-fresh
invariant_of-self-then-fresh _ c =
    let s = c.self.inside in
    turned-again s.by_rows c.insert-2.new.self s.by_cols c.insert.new.self c.remove.new.self c.turned-turned.result c.in_ok-fresh.fresh c.self.invariant
    c.in_ok-fresh.ensures.added c.if-fresh.true c.in_ok-fresh.ensures.updates.0 c.remove.ensures.updates.0 c.in-Err.ensures.err
