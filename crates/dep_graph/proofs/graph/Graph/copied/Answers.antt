use Rattle.std.proofs.Common.{subst, sym}
use Rattle.dep_graph.specs.Graph.{AreSame}
use Rattle.dep_graph.specs.internal.Nets.{links_in}
use Rattle.dep_graph.proofs.Listing.{if_ok}
use Rattle.dep_graph.proofs.graph.Graph.copied.Goals as goal

pub returns : goal.returns
returns c =
    if_ok c.of.result _ _ c.of.ensures
    (λ graph is. subst (λ n. AreSame (links_in c.args.self.now.net.value) (links_in n)) (sym is)
    (subst (λ n. AreSame (links_in n) (links_in c.in_ok-copied.field-0)) c.deref.ensures c.in_ok-copied.ensures))
