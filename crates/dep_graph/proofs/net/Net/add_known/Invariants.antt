use Rattle.std.proofs.Common.{take}
use Rattle.dep_graph.specs.internal.Touches.{AddsKnown}
use Rattle.dep_graph.proofs.net.Net.add_known.Given as goal

-- those of the numbers gone by were added
abbrev pub invariant-numbers : goal.invariant-numbers
invariant-numbers l = AddsKnown l.self.nodes (take l.number-index l.numbers) l.fn.found.keys l.found.keys
