use Rattle.std.proofs.Common.{◌≡◌, ◌<◌, ℕ}
use Rattle.needs_order.specs.declared.search.Mark.TheVariants.{Closed}
use Rattle.needs_order.specs.Needs.{lists_of}
use Rattle.needs_order.specs.internal.Search.{mark_at, IsIdle}
use Rattle.needs_order.proofs.search.order.Given as goal

-- the nodes gone by are closed
abbrev pub invariant-nodes : goal.invariant-nodes
invariant-nodes l = IsIdle (lists_of l.needs) l.search × ((a : ℕ) → a < l.node → mark_at l.search.marks.items a ≡ Closed)
