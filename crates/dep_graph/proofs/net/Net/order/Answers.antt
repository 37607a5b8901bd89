use Rattle.std.proofs.Common.{◌<◌, ◌∙◌, ◌++◌, ap, subst, sym}
use Rattle.std.specs.List.{All}
use Rattle.node_links.proofs.Relinking.{all_of}
use Rattle.node_reach.specs.Arrows as arrows
use Rattle.dep_graph.specs.Nodes.{items_of}
use Rattle.dep_graph.specs.internal.Arrows.{targets_of, total}
use Rattle.dep_graph.specs.internal.Walked.{AreKnown, AreUnknown, picks}
use Rattle.dep_graph.proofs.Listing.{if_ok}
use Rattle.dep_graph.proofs.Numbers.{found_all}
use Rattle.dep_graph.proofs.Ordering.{all_ordered, known_alive, known_inside_total}
use Rattle.dep_graph.proofs.Picking.{picks_has}
use Rattle.dep_graph.proofs.net.Net.order.Goals as goal

pub order-requires : goal.order-requires
order-requires c =
    subst (λ l. All (λ b. b < total c.args.self.now) l) (sym c.as_slice.ensures.keys)
    (all_of (total c.args.self.now) c.in_ok-split.split.known.keys (known_inside_total c.args.self.now _ c.in_ok-split.split.known.keys c.in_ok-split.ensures.known))

pub returns : goal.returns
returns c =
    if_ok c.ordered.result _ _ c.ordered.ensures
    (λ order is. all_ordered c.args.self.now (items_of c.args.nodes.now) c.in_ok-split.split.unknown.keys (items_of order) c.in_ok-split.split.known.keys c.in_ok-walk.walk.nodes.items c.in_ok-walk.walk.on_cycle.items
    (subst (λ l. AreUnknown c.args.self.now l c.in_ok-split.split.unknown.keys) c.items.ensures c.in_ok-split.ensures.unknown)
    (subst (λ l. AreKnown c.args.self.now l c.in_ok-split.split.known.keys) c.items.ensures c.in_ok-split.ensures.known)
    (subst (λ l. arrows.AreReached (targets_of c.args.self.now) l c.in_ok-walk.walk.nodes.items) c.as_slice.ensures.keys c.in_ok-walk.ensures.reached)
    c.in_ok-walk.ensures.counts c.in_ok-walk.ensures.cycles c.in_ok-walk.ensures.in_order
    (is ∙ ap (λ l. c.in_ok-split.split.unknown.keys ++ l) (found_all c.args.self.now.nodes (picks c.in_ok-split.split.known.keys c.in_ok-walk.walk.nodes.items c.in_ok-walk.walk.on_cycle.items)
    (λ n h. known_alive c.args.self.now (items_of c.args.nodes.now) c.in_ok-split.split.known.keys (subst (λ l. AreKnown c.args.self.now l c.in_ok-split.split.known.keys) c.items.ensures c.in_ok-split.ensures.known) n
    (picks_has c.in_ok-split.split.known.keys c.in_ok-walk.walk.nodes.items c.in_ok-walk.walk.on_cycle.items n h).0))))
