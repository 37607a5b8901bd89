use Rattle.node_links.specs.Nodes.{needs_of}
use Rattle.node_links.specs.Redirect.{AreRedirected, few_target}
use Rattle.node_links.proofs.Around.{around_still, redirected}
use Rattle.node_links.proofs.Sets.{on_ok}
use Rattle.node_links.proofs.links.Links.redirect_few.Goals as goal

pub returns-clause-ok : goal.returns-clause-ok
returns-clause-ok c =
    let few = c.args.few.now in
    let needs = needs_of c.args.self.now in
    on_ok c.link_few.result _ (AreRedirected (few_target few) needs (needs_of c.link_few.new.self)) c.link_few.ensures.ok
    (λ linked. redirected few needs (needs_of c.link_few.new.self) c.gather_few.new.lists c.in_ok-gather_few.ensures.gathered
    (λ a among. around_still few needs c.in_ok-lists.lists c.gather_few.new.lists a c.in_ok-gather_few.ensures.same (c.in_ok-lists.ensures.around a among)) linked)
