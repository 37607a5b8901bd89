use Rattle.std.proofs.Common.{◌∙◌, ◌<◌, get_or, subst, sym}
use Rattle.std.proofs.lemmas.List.{take_all}
use Rattle.needs_order.proofs.Lists.{has_at}
use Rattle.dep_graph.specs.internal.UserNumbers.{AreUsersOf}
use Rattle.dep_graph.proofs.Using.{next_users, no_users}
use Rattle.dep_graph.proofs.net.Net.users_of.Goals as goal

pub users-requires : goal.users-requires
users-requires c =
    let i = c.numbers.number-index in
    subst (λ k. get_or c.args.numbers.now i 0 < k) (sym c.args.self.now.counts) (c.requires (get_or c.args.numbers.now i 0) (has_at c.args.numbers.now i c.numbers-test.true))

pub numbers-init : goal.numbers-init
numbers-init c = no_users c.args.self.now c.with_hasher-users.result.keys c.with_hasher-users.ensures.empty

pub numbers-preserved : goal.numbers-preserved
numbers-preserved c =
    next_users c.args.self.now c.args.numbers.now c.deref.result.now c.numbers.number-index 0 c.numbers.users.keys c.add_all.new.numbers.keys c.numbers-test.true c.numbers.invariant
    (c.deref.ensures.value ∙ c.in_ok-users.ensures.list) c.in_ok-add_all.ensures

pub returns : goal.returns
returns c = subst (λ l. AreUsersOf c.args.self.now l c.numbers.users.keys) (take_all c.numbers.number-index c.args.numbers.now c.numbers-test.false) c.numbers.invariant
