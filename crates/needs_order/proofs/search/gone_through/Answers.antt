use Rattle.std.proofs.Common.{sym, rules}
use Rattle.needs_order.proofs.Visits.{through_open, through_closed}
use Rattle.needs_order.proofs.search.gone_through.Goals as goal
use Rattle.needs_order.proofs.search.gone_through.Goals.{in-Open, in-Closed}

pub needs-preserved : goal.needs-preserved
needs-preserved c = elim c.match-mark_of.branch [
  | in-Open w ↦
      through_open c.args.needs.now c.args.marks.now c.args.visit c.needs.next c.needs.low c.needs.invariant w.in-Open.place c.match-mark_of.low c.needs-test.true (sym w.in-Open.ensures) (search rules)
  | in-Closed w ↦
      through_closed c.args.needs.now c.args.marks.now c.args.visit c.needs.next c.needs.low c.needs.invariant c.match-mark_of.low (sym w.in-Closed.ensures) w.low-is
]
