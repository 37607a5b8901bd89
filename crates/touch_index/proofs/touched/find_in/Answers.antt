use Rattle.std.proofs.Common.{sym}
use Rattle.cell_addr.specs.Axis.{span_of}
use Rattle.cell_addr.specs.declared.axis.Axis.TheVariants.{Cols, Rows}
use Rattle.place_lines.specs.Spots.{spot_of}
use Rattle.shift_core.proofs.CellMoves.{Covers-from_covers}
use Rattle.touch_index.proofs.Found.{on_ok}
use Rattle.touch_index.proofs.Touching.{on_runs}
use Rattle.touch_index.proofs.touched.find_in.Goals as goal

pub returns-then-height-width-clause-found : goal.returns-then-height-width-clause-found
returns-then-height-width-clause-found c = on_ok c.find_in.result _ _ c.find_in.ensures.found
    (λ found p n there covered.
    let b = c.args.block in
    let w = Covers-from_covers b p covered in
    found (spot_of c.args.lines.now p) n there (sym w.0)
    (on_runs Rows c.args.lines.now p b.sheet c.span.result (span_of Rows b) c.in_ok-rows.rows.items c.deref.result.now c.in_ok-rows.ensures c.span.ensures c.deref.ensures.value (sym w.0) w.1 w.2)
    (on_runs Cols c.args.lines.now p b.sheet c.span-2.result (span_of Cols b) c.in_ok-cols.cols.items c.deref-then-height-width.result.now c.in_ok-cols.ensures c.span-2.ensures c.deref-then-height-width.ensures.value (sym w.0) w.3 w.4))

pub returns-clause-found : goal.returns-clause-found
returns-clause-found c = on_ok c.find_in-else-height-width.result _ _ c.find_in-else-height-width.ensures.found
    (λ found p n there covered.
    let b = c.args.block in
    let w = Covers-from_covers b p covered in
    found (spot_of c.args.lines.now p) n there (sym w.0)
    (on_runs Cols c.args.lines.now p b.sheet c.span-2.result (span_of Cols b) c.in_ok-cols.cols.items c.deref-else-height-width.result.now c.in_ok-cols.ensures c.span-2.ensures c.deref-else-height-width.ensures.value (sym w.0) w.3 w.4)
    (on_runs Rows c.args.lines.now p b.sheet c.span.result (span_of Rows b) c.in_ok-rows.rows.items c.deref-else-height-width-2.result.now c.in_ok-rows.ensures c.span.ensures c.deref-else-height-width-2.ensures.value (sym w.0) w.1 w.2))
