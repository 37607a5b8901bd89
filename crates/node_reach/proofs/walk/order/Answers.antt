use Rattle.std.proofs.Common.{◌≡◌, ◌∙◌, ap, ap₂, subst, sym, ◌<◌, length, map, get_or, false}
use Rattle.std.specs.List.{All}
use Rattle.std.proofs.lemmas.List.{length-map}
use Rattle.needs_order.specs.Needs.{AreNodes, lists_of}
use Rattle.node_reach.proofs.Following.{are_nodes}
use Rattle.node_reach.proofs.Reading.{all_read}
use Rattle.node_reach.proofs.walk.order.Goals as goal

pub order-requires : goal.order-requires
order-requires g c = subst (λ l. AreNodes (lists_of l)) (sym c.as_slice-lists.ensures.value) (are_nodes _ _ _ _ _ c.in_ok-found.ensures)

pub read-requires : goal.read-requires
read-requires g c =
    let lent : length c.as_slice-lists.result.now ≡ length c.as_slice-keys.result.now
    = ap length c.as_slice-lists.ensures.value ∙ (sym (length-map c.in_ok-found.found.lists.items (λ list. list.items)) ∙ (c.in_ok-found.ensures.all ∙ ap length (sym c.as_slice-keys.ensures.keys))) in
    subst (λ ps. All (λ p. p < length c.as_slice-keys.result.now) ps) (sym c.as_slice-places.ensures.value) (subst (λ n. All (λ p. p < n) c.in_ok-order.order.nodes.items) lent c.in_ok-order.ensures.each_once.1)

pub read-requires-2 : goal.read-requires-2
read-requires-2 g c =
    let lent : length c.as_slice-lists.result.now ≡ length c.as_slice-flags.result.now = sym c.in_ok-order.ensures.counts ∙ ap length (sym c.as_slice-flags.ensures.value) in
    subst (λ ps. All (λ p. p < length c.as_slice-flags.result.now) ps) (sym c.as_slice-places.ensures.value) (subst (λ n. All (λ p. p < n) c.in_ok-order.order.nodes.items) lent c.in_ok-order.ensures.each_once.1)

pub returns : goal.returns
returns g c =
    let order = c.in_ok-order.ensures in
    let nodes = c.in_ok-nodes.ensures 0 ∙ ap₂ (λ l ps. map (λ p. get_or l p 0) ps) c.as_slice-keys.ensures.keys c.as_slice-places.ensures.value in
    let flags = c.in_ok-on_cycle.ensures false ∙ ap₂ (λ l ps. map (λ p. get_or l p false) ps) c.as_slice-flags.ensures.value c.as_slice-places.ensures.value in
    let all = all_read (g.A.Arrows.count c.args.graph.now) (g.A.Arrows.targets c.args.graph.now) c.args.starts.now _ _ _ _ _ _ _ c.in_ok-found.ensures c.as_slice-lists.ensures.value order.each_once order.cycles order.in_order nodes flags in
    record { reached = all.0; counts = all.1; cycles = all.2; in_order = all.3 }
