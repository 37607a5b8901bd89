use Rattle.std.proofs.Common.{◌≡◌, filter, take}
use Rattle.dep_graph.specs.internal.Arrows.{is_used, under_slot}
use Rattle.dep_graph.proofs.net.Net.from_slot.Given as goal

-- the used ones of those gone by are listed
abbrev pub invariant-filed : goal.invariant-filed
invariant-filed l = l.found.items ≡ filter (is_used l.self) (take l.range-index (under_slot l.self l.slot))
