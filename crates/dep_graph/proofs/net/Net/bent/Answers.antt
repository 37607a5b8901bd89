use Rattle.std.proofs.Common.{◌∙◌, ◌++◌, ap, subst, sym}
use Rattle.std.specs.List.{filter_map}
use Rattle.node_reach.proofs.Putting.{once_from_distinct}
use Rattle.dep_graph.specs.Nodes.{items_of}
use Rattle.dep_graph.specs.internal.BentNumbers.{AreBentUsers}
use Rattle.dep_graph.specs.internal.Numbers.{found_at}
use Rattle.dep_graph.specs.internal.Touches.{AreInside}
use Rattle.dep_graph.proofs.Bending.{all_bent}
use Rattle.dep_graph.proofs.Listing.{if_ok}
use Rattle.dep_graph.proofs.net.Net.bent.Goals as goal

pub bent_users-requires-clause-inside : goal.bent_users-requires-clause-inside
bent_users-requires-clause-inside c = subst (AreInside c.args.self.now.nodes) (sym c.as_slice.ensures.keys) c.in_ok-found.ensures.inside

pub returns : goal.returns
returns c =
    let net = c.args.self.now in
    let users = c.in_ok-users.users.keys in
    if_ok c.named.result _ _ c.named.ensures
    (λ nodes is. all_bent c.args.s.now net c.in_ok-found.found.keys users (items_of nodes) c.in_ok-found.ensures.found
    (subst (λ l. AreBentUsers c.args.s.now net l users) c.as_slice.ensures.keys c.in_ok-users.ensures)
    (once_from_distinct users c.as_slice-2.ensures.unique)
    (is ∙ (ap (λ l. l ++ filter_map (found_at net.nodes) c.as_slice-2.result.now) c.new-none.ensures.empty ∙ ap (filter_map (found_at net.nodes)) c.as_slice-2.ensures.keys)))
