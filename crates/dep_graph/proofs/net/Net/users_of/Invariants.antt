use Rattle.std.proofs.Common.{take}
use Rattle.dep_graph.specs.internal.UserNumbers.{AreUsersOf}
use Rattle.dep_graph.proofs.net.Net.users_of.Given as goal

-- the users of the numbers gone by
abbrev pub invariant-numbers : goal.invariant-numbers
invariant-numbers l = AreUsersOf l.self (take l.number-index l.numbers) l.users.keys
