use Rattle.grid_store.proofs.Listings.{Search}
use Rattle.grid_store.proofs.view.View.has_any_between.Given as goal

abbrev pub invariant-loop-key : goal.invariant-loop-key
invariant-loop-key _ l = Search l.self.rows.now l.self.cols.now l.self.cells.now.entries l.area l.fn.row l.fn.lines l.key-iterator
