use Rattle.session_values.proofs.MarkedCells.{item_marked, item_touched}
use Rattle.session_values.proofs.values.SessionValues.touch_cells.Goals as goal

pub returns-in_err-touch-clause-touched : goal.returns-in_err-touch-clause-touched
returns-in_err-touch-clause-touched g c =
    item_touched (λ e. e.0) c.args.cells.now c.cells.cell-index c.cell-item.result c.args.self.now.values c.cells.self.values c.touch.new.self.values c.cells-test.true c.cell-item.is c.cells.invariant.touched c.touch.ensures.touched

pub cells-preserved : goal.cells-preserved
cells-preserved g c = record {
  touched = item_touched (λ e. e.0) c.args.cells.now c.cells.cell-index c.cell-item.result c.args.self.now.values c.cells.self.values c.touch.new.self.values c.cells-test.true c.cell-item.is c.cells.invariant.touched c.touch.ensures.touched;
  marked = item_marked (λ e. e.0) c.args.cells.now c.cells.cell-index c.cell-item.result c.cells.self.values c.touch.new.self.values c.cells-test.true c.cell-item.is c.touch.ensures.touched c.cells.invariant.marked c.in_ok-touch.ensures.marked;
}
