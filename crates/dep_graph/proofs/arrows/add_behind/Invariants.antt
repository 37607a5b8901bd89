use Rattle.std.proofs.Common.{◌≡◌, ◌+◌, ◌++◌, map, take}
use Rattle.dep_graph.proofs.arrows.add_behind.Given as goal

-- the slots gone by are added
abbrev pub invariant-slots : goal.invariant-slots
invariant-slots l = l.found.items ≡ l.initial.found.items ++ map (λ s. l.count + s) (take l.slot-index l.slots)
