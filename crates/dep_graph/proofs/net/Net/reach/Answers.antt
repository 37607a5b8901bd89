use Rattle.std.proofs.Common.{◌≡◌, ◌∙◌, ◌++◌, ap, subst, true}
use Rattle.std.specs.List.{filter_map, flat_map}
use Rattle.node_links.proofs.Relinking.{all_of}
use Rattle.needs_order.specs.Needs as plain
use Rattle.dep_graph.specs.Nodes.{items_of}
use Rattle.dep_graph.specs.internal.Arrows.{starts_of, total}
use Rattle.dep_graph.specs.internal.Numbers.{found_at}
use Rattle.dep_graph.specs.internal.Walked.{AreUnknown}
use Rattle.dep_graph.proofs.Listing.{if_ok}
use Rattle.dep_graph.proofs.Numbers.{found_low}
use Rattle.dep_graph.proofs.Reaching.{all_reached, reached_alive, starts_inside}
use Rattle.dep_graph.proofs.net.Net.reach.Goals as goal

pub reach-requires : goal.reach-requires
reach-requires c =
    let begun : c.deref.result.now ≡ flat_map (starts_of c.args.self.now) (items_of c.args.marks.now) = c.deref.ensures.value ∙ (c.in_ok-starts.ensures ∙ ap (flat_map (starts_of c.args.self.now)) c.items-2.ensures) in
    all_of (total c.args.self.now) c.deref.result.now
    (λ b h. starts_inside c.args.self.now (items_of c.args.marks.now) b (subst (λ l. plain.has b l ≡ true) begun h))

pub returns : goal.returns
returns c =
    if_ok c.named.result _ _ c.named.ensures
    (λ nodes is. all_reached c.args.self.now (items_of c.args.marks.now) c.in_ok-split.split.unknown.keys (items_of nodes) c.deref.result.now c.in_ok-reached.reached.items
    (subst (λ l. AreUnknown c.args.self.now l c.in_ok-split.split.unknown.keys) c.items.ensures c.in_ok-split.ensures.unknown)
    (c.deref.ensures.value ∙ (c.in_ok-starts.ensures ∙ ap (flat_map (starts_of c.args.self.now)) c.items-2.ensures))
    c.in_ok-reached.ensures
    (is ∙ ap (λ l. c.in_ok-split.split.unknown.keys ++ l) (ap (filter_map (found_at c.args.self.now.nodes)) c.deref-2.ensures.value
    ∙ found_low c.args.self.now.nodes c.in_ok-reached.reached.items (reached_alive c.args.self.now (items_of c.args.marks.now) c.deref.result.now c.in_ok-reached.reached.items
    (c.deref.ensures.value ∙ (c.in_ok-starts.ensures ∙ ap (flat_map (starts_of c.args.self.now)) c.items-2.ensures)) c.in_ok-reached.ensures))))
