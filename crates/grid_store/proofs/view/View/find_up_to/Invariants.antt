use Rattle.std.proofs.Common.{◌+◌}
use Rattle.grid_store.proofs.Stretches.{Stretch}
use Rattle.grid_store.proofs.view.View.find_up_to.Given as goal

abbrev pub invariant-loop-key : goal.invariant-loop-key
invariant-loop-key _ l = Stretch l.self.rows.now l.self.cols.now l.self.cells.now.entries l.area l.fn.row (l.fn.lines.to + l.fn.lines.count) l.fn.cols l.initial.found l.found l.key-iterator
