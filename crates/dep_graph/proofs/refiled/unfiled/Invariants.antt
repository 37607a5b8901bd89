use Rattle.std.proofs.Common.{take}
use Rattle.dep_graph.specs.internal.ShiftedNumbers.{AreUnfiled}
use Rattle.dep_graph.proofs.refiled.unfiled.Given as goal

-- the numbers gone by are there
abbrev pub invariant-numbers : goal.invariant-numbers
invariant-numbers l = AreUnfiled (take l.number-index l.numbers) l.filings
