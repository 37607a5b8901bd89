use Rattle.std.proofs.Common.{◌≢◌, length, reverse}
use Rattle.needs_order.specs.declared.search.Mark.TheVariants.{Unseen}
use Rattle.needs_order.specs.Needs.{lists_of}
use Rattle.needs_order.specs.internal.Search.{mark_at, steps_left, IsSound, KeepsMet}
use Rattle.needs_order.proofs.search.Search.close_from.Given as goal

-- the search is sound, and the node was met
abbrev pub invariant-walking : goal.invariant-walking
invariant-walking l =
    IsSound (lists_of l.needs) l.self (reverse l.self.visits.items)
    × KeepsMet l.fn.self l.self
    × (mark_at l.self.marks.items l.node ≢ Unseen)

abbrev pub decreases-walking : goal.decreases-walking
decreases-walking l = steps_left l.self.marks.items (length l.self.visits.items)
