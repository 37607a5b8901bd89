use Rattle.std.proofs.Common.{◌≡◌, ◌++◌, take}
use Rattle.std.specs.List.{flat_map}
use Rattle.dep_graph.specs.internal.Arrows.{from_slot}
use Rattle.dep_graph.proofs.net.Net.add_filed.Given as goal

-- the used ranges under the slots gone by were added
abbrev pub invariant-slots : goal.invariant-slots
invariant-slots l = l.numbers.items ≡ l.fn.numbers.items ++ flat_map (from_slot l.self) (take l.slot-index l.slots)
