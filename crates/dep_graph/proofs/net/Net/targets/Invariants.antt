use Rattle.std.proofs.Common.{take}
use Rattle.dep_graph.specs.internal.Nets.{Grows}
use Rattle.dep_graph.proofs.Targets.{AreTargetsOf}
use Rattle.dep_graph.proofs.net.Net.targets.Given as goal

-- the numbers gone by have their targets
abbrev pub invariant-numbers : goal.invariant-numbers
invariant-numbers l = record {
  grown : Grows l.fn.self l.self;
  targets : AreTargetsOf l.fn.s l.fn.lines l.self (take l.number-index l.found) l.few;
}
