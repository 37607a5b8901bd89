use Rattle.std.proofs.Common.{◌≡◌, ◌∙◌, ◌++◌, ap, subst, true}
use Rattle.std.specs.List.{filter_map}
use Rattle.needs_order.specs.Needs as plain
use Rattle.node_reach.proofs.Putting.{once_from_distinct}
use Rattle.dep_graph.specs.Nodes.{items_of}
use Rattle.dep_graph.specs.internal.Numbers.{found_at}
use Rattle.dep_graph.specs.internal.UserNumbers.{AreUsersOf}
use Rattle.dep_graph.proofs.Listing.{if_ok}
use Rattle.dep_graph.proofs.Using.{all_users, over_inside}
use Rattle.dep_graph.proofs.net.Net.users.Goals as goal

pub users_of-requires : goal.users_of-requires
users_of-requires c = λ m h. over_inside c.args.self.now c.args.at m (subst (λ l. plain.has m l ≡ true) (c.deref.ensures.value ∙ c.in_ok-over.ensures) h)

pub returns : goal.returns
returns c =
    let net = c.args.self.now in
    let users = c.in_ok-users.users.keys in
    if_ok c.named.result _ _ c.named.ensures
    (λ nodes is. all_users net c.args.at users (items_of nodes)
    (subst (λ l. AreUsersOf net l users) (c.deref.ensures.value ∙ c.in_ok-over.ensures) c.in_ok-users.ensures)
    (once_from_distinct users c.as_slice.ensures.unique)
    (is ∙ (ap (λ l. l ++ filter_map (found_at net.nodes) c.as_slice.result.now) c.new-none.ensures.empty ∙ ap (filter_map (found_at net.nodes)) c.as_slice.ensures.keys)))
