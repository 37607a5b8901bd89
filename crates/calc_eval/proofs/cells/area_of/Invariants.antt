use Rattle.std.proofs.Common.{◌≡◌}
use Rattle.calc_eval.proofs.BlockFilling.{cells_before, filled, rows_before}
use Rattle.calc_eval.proofs.cells.area_of.Given as goal

abbrev pub invariant-rows : goal.invariant-rows
invariant-rows g l = l.area ≡ filled (g.C.ShownCells.shown l.cells) l.block (rows_before (g.C.ShownCells.shown l.cells) l.block l.row)

abbrev pub invariant-cols : goal.invariant-cols
invariant-cols g l = l.area ≡ filled (g.C.ShownCells.shown l.cells) l.block (cells_before (g.C.ShownCells.shown l.cells) l.block l.row l.col)
