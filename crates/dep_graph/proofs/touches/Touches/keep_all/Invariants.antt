use Rattle.std.proofs.Common.{take}
use Rattle.dep_graph.specs.internal.Touches.{AreKept, IsMore}
use Rattle.dep_graph.proofs.touches.Touches.keep_all.Given as goal

-- the nodes of the numbers gone by are kept
abbrev pub invariant-numbers : goal.invariant-numbers
invariant-numbers l = record {
  more : IsMore l.fn.self l.self;
  kept : AreKept l.lines l.nodes.keys.keys l.self (take l.number-index l.numbers);
}
