use Rattle.std.proofs.Common.{◌-◌, ◌+◌, sym, subst, arith}
use Rattle.place_lines.proofs.Numbers.{AreNumbersBefore, one_more}
use Rattle.place_lines.proofs.lines.PlaceLines.runs.Goals as goal

pub walk-preserved : goal.walk-preserved
walk-preserved c =
    let w = c.walk.invariant in
    let r = c.run_from-run.result in
    let t = c.table-table.result.now in
    let first = c.args.span.first in
    record {
      from = omega (arith, w.from);
      within = omega (arith, w.from, w.within, c.walk-test.true, c.run_from-run.ensures.within);
      numbers = subst (AreNumbersBefore t first (c.walk.at + (r.end - r.start))) (sym c.in_ok-push.ensures.items) (one_more t first c.walk.at c.walk.runs.items r w.from c.run_from-run.ensures.numbers w.numbers);
    }
