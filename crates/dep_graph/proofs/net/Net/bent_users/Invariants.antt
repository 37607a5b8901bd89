use Rattle.std.proofs.Common.{take}
use Rattle.dep_graph.specs.internal.BentNumbers.{AreBentUsers}
use Rattle.dep_graph.proofs.net.Net.bent_users.Given as goal

-- the users of the bent ones of the numbers gone by
abbrev pub invariant-numbers : goal.invariant-numbers
invariant-numbers l = AreBentUsers l.s l.self (take l.number-index l.found) l.users.keys
