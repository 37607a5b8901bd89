use Rattle.std.proofs.Common.{take}
use Rattle.dep_graph.specs.internal.Touches.{AddsAll}
use Rattle.dep_graph.proofs.bent.add_all.Given as goal

-- the numbers gone by were added
abbrev pub invariant-numbers : goal.invariant-numbers
invariant-numbers l = AddsAll (take l.number-index l.more) l.fn.numbers.keys l.numbers.keys
