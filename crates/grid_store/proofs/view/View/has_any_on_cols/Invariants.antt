use Rattle.grid_store.proofs.ColumnKeys.{Search}
use Rattle.grid_store.proofs.view.View.has_any_on_cols.Given as goal

abbrev pub invariant-loop-turned : goal.invariant-loop-turned
invariant-loop-turned _ l = Search l.self.rows.now l.self.cols.now l.self.cells.now.entries l.area l.fn.lines l.turned-iterator
