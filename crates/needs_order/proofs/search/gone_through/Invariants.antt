use Rattle.std.proofs.Common.{length, ◌-◌}
use Rattle.needs_order.proofs.Visits.{AreThrough}
use Rattle.needs_order.proofs.search.gone_through.Given as goal

-- the needs gone through are settled
abbrev pub invariant-needs : goal.invariant-needs
invariant-needs l = AreThrough l.needs l.marks l.visit l.next l.low

abbrev pub decreases-needs : goal.decreases-needs
decreases-needs l = length l.needs - l.next
