use Rattle.std.proofs.Common.{get_or, subst}
use Rattle.std.proofs.lemmas.List.{take_all}
use Rattle.needs_order.proofs.Lists.{has_at}
use Rattle.dep_graph.specs.internal.BentNumbers.{AreBentUsers}
use Rattle.dep_graph.proofs.Bending.{next_users, no_users}
use Rattle.dep_graph.proofs.net.Net.bent_users.Goals as goal

pub add_bent_users-requires-clause-number : goal.add_bent_users-requires-clause-number
add_bent_users-requires-clause-number c = c.requires.inside (get_or c.args.found.now c.numbers.number-index 0) (has_at c.args.found.now c.numbers.number-index c.numbers-test.true)

pub numbers-init : goal.numbers-init
numbers-init c = no_users c.args.s.now c.args.self.now c.with_hasher-users.result.keys c.with_hasher-users.ensures.empty

pub numbers-preserved : goal.numbers-preserved
numbers-preserved c =
    next_users c.args.s.now c.args.self.now c.args.found.now c.numbers.number-index 0 c.numbers.users.keys c.add_bent_users.new.users.keys c.numbers-test.true c.numbers.invariant c.in_ok-add_bent_users.ensures

pub returns : goal.returns
returns c = subst (λ l. AreBentUsers c.args.s.now c.args.self.now l c.numbers.users.keys) (take_all c.numbers.number-index c.args.found.now c.numbers-test.false) c.numbers.invariant
