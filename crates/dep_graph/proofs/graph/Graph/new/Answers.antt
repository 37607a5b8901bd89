use Rattle.std.proofs.Common.{◌≡◌, [], subst, sym}
use Rattle.dep_graph.specs.internal.Nets.{links_in}
use Rattle.dep_graph.proofs.Listing.{if_ok}
use Rattle.dep_graph.proofs.graph.Graph.new.Goals as goal

pub returns : goal.returns
returns c = if_ok c.of.result _ _ c.of.ensures (λ graph is a. subst (λ n. links_in n a ≡ []) (sym is) (c.in_ok-new.ensures a))
