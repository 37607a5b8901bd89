use Rattle.std.proofs.Common.{◌≡◌, ◌∙◌, ◌++◌, ap, subst, ℕ, List, true}
use Rattle.std.specs.List.{filter_map}
use Rattle.needs_order.specs.Needs as plain
use Rattle.node_reach.proofs.Putting.{once_from_distinct}
use Rattle.dep_graph.specs.Nodes.{items_of}
use Rattle.dep_graph.specs.internal.Numbers.{found_at}
use Rattle.dep_graph.specs.internal.UserNumbers.{AreUsersOf, own_number}
use Rattle.dep_graph.proofs.Listing.{if_ok}
use Rattle.dep_graph.proofs.Using.{own_inside, own_users}
use Rattle.dep_graph.proofs.net.Net.linked_to.Goals as goal

pub users_of-requires : goal.users_of-requires
users_of-requires c = λ m h. own_inside c.args.self.now c.args.a m (subst (λ l. plain.has m l ≡ true) (c.deref.ensures.value ∙ c.in_ok-add_own.ensures ∙ ap (λ (l : List ℕ). l ++ own_number c.args.self.now c.args.a) c.new-own.ensures.items) h)

pub returns : goal.returns
returns c =
    let net = c.args.self.now in
    let users = c.in_ok-users.users.keys in
    if_ok c.named.result _ _ c.named.ensures
    (λ nodes is. own_users net c.args.a users (items_of nodes)
    (subst (λ l. AreUsersOf net l users) (c.deref.ensures.value ∙ c.in_ok-add_own.ensures ∙ ap (λ (l : List ℕ). l ++ own_number net c.args.a) c.new-own.ensures.items) c.in_ok-users.ensures)
    (once_from_distinct users c.as_slice.ensures.unique)
    (is ∙ (ap (λ l. l ++ filter_map (found_at net.nodes) c.as_slice.result.now) c.new-none.ensures.empty ∙ ap (filter_map (found_at net.nodes)) c.as_slice.ensures.keys)))
