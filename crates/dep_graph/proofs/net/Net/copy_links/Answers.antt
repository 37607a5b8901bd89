use Rattle.std.proofs.Common.{◌∙◌, inl, inr, refl, subst, sym}
use Rattle.dep_graph.specs.Graph.{AreLinked}
use Rattle.dep_graph.specs.internal.Nets.{links_in}
use Rattle.dep_graph.proofs.Adding.{on_ok}
use Rattle.dep_graph.proofs.Copying.{none_needed}
use Rattle.dep_graph.proofs.net.Net.copy_links.Goals as goal

pub returns-in_ok-needs-in-Some : goal.returns-in_ok-needs-in-Some
returns-in_ok-needs-in-Some c =
    on_ok c.link.result _ _ c.link.ensures.ok
    (λ linked. inr (c.in-Some.node, sym c.in-Some.ensures, subst (λ l. AreLinked c.in-Some.node l (links_in c.args.copy.now) (links_in c.link.new.self)) (c.items.ensures ∙ c.in_ok-needs-in-Some.ensures) linked))

pub returns-in-None : goal.returns-in-None
returns-in-None c = inl (none_needed c.args.self.now c.args.number (sym c.in-None.ensures), λ x. refl)
