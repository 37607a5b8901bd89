use Rattle.grid_store.proofs.ColumnKeys.{Progress}
use Rattle.grid_store.proofs.view.View.find_on_cols.Given as goal

abbrev pub invariant-loop-turned : goal.invariant-loop-turned
invariant-loop-turned _ l = Progress l.self.rows.now l.self.cols.now l.self.cells.now.entries l.area l.fn.lines l.initial.found l.found l.turned-iterator
