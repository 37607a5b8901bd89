use Rattle.grid_store.proofs.Listings.{IsIn, Progress}
use Rattle.grid_store.proofs.view.View.find_between.Given as goal

abbrev pub invariant-loop-key : goal.invariant-loop-key
invariant-loop-key _ l = Progress l.self.rows.now l.self.cols.now l.self.cells.now.entries l.area (IsIn l.area.sheet l.fn.row l.fn.lines) l.initial.found l.found l.key-iterator
