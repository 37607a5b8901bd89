use Rattle.std.proofs.Common.{◌∙◌, subst, sym}
use Rattle.node_reach.specs.Arrows.{AreReached}
use Rattle.node_reach.proofs.Following.{all_reached, all_reversed}
use Rattle.node_reach.proofs.walk.reach.Goals as goal

pub returns : goal.returns
returns g c =
    let all = subst (λ l. AreReached (g.A.Arrows.targets c.args.graph.now) c.args.starts.now l) (sym (c.in_ok-nodes.ensures.items ∙ c.as_slice.ensures.keys)) (all_reached _ _ _ _ _ c.in_ok-found.ensures) in
    subst (λ l. AreReached (g.A.Arrows.targets c.args.graph.now) c.args.starts.now l) (sym c.reverse.ensures.items) (all_reversed (g.A.Arrows.targets c.args.graph.now) c.args.starts.now _ all)
