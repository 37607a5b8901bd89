use Rattle.std.proofs.Common.{None}
use Rattle.grid_store.proofs.TurnedKeys.{turned-changed}
use Rattle.grid_store.proofs.cells.Cells.remove.Goals as goal

pub invariant_of-self : goal.invariant_of-self
invariant_of-self _ c =
    let s = c.self.inside in
    turned-changed s.by_rows c.remove-2.new.self s.by_cols c.remove.new.self c.args.key.now c.turned.result None c.turned.ensures c.self.invariant c.remove.ensures.updates.0 c.remove-2.ensures.updates.0
