use Rattle.std.proofs.Common.{◌≡◌, ◌∙◌, ◌<◌, subst, sym, true, ⊎_elim}
use Rattle.needs_order.specs.Needs.{has}
use Rattle.node_links.specs.Nodes.{needs_of, node_count}
use Rattle.node_links.proofs.Relinking.{all_of}
use Rattle.dep_graph.specs.internal.Numbers.{IsAlive}
use Rattle.dep_graph.proofs.Adding.{either_need}
use Rattle.dep_graph.proofs.Numbers.{alive_inside}
use Rattle.dep_graph.proofs.net.Net.link_numbers.Goals as goal

pub needs-dropped-requires : goal.needs-dropped-requires
needs-dropped-requires c = subst (λ k. c.args.node < k) (sym c.args.self.now.counts) (alive_inside c.args.self.now.nodes c.args.node c.requires.node)

pub link-requires-clause-node : goal.link-requires-clause-node
link-requires-clause-node c = subst (λ k. c.args.node < k) (sym c.args.self.now.counts) (alive_inside c.args.self.now.nodes c.args.node c.requires.node)

pub link-requires-clause-needs : goal.link-requires-clause-needs
link-requires-clause-needs c = all_of (node_count c.args.self.now.links) c.args.needs.now (λ b h. subst (λ k. b < k) (sym c.args.self.now.counts) (alive_inside c.args.self.now.nodes b (c.requires.alive b h)))

pub invariant_of-self : goal.invariant_of-self
invariant_of-self c = record {
  counts = c.link.ensures.count ∙ c.args.self.now.counts;
  rooms = c.args.self.now.rooms;
  alive = λ a n h. ⊎_elim
      (λ (was : has n (needs_of c.args.self.now.links a) ≡ true). c.args.self.now.alive a n was)
      (λ (now : (a ≡ c.args.node) × (has n c.args.needs.now ≡ true)). (subst (IsAlive c.args.self.now.nodes) (sym now.0) c.requires.node, c.requires.alive n now.1))
      (either_need c.link.result (needs_of c.link.new.self) (needs_of c.args.self.now.links) c.args.node c.args.needs.now c.link.ensures.ok c.link.ensures.err a n h);
  filed = c.args.self.now.filed;
  used = λ a n h. ⊎_elim
      (λ (was : has n (needs_of c.args.self.now.links a) ≡ true). c.args.self.now.used a n was)
      (λ (now : (a ≡ c.args.node) × (has n c.args.needs.now ≡ true)). c.requires.filed n now.1)
      (either_need c.link.result (needs_of c.link.new.self) (needs_of c.args.self.now.links) c.args.node c.args.needs.now c.link.ensures.ok c.link.ensures.err a n h);
  indexed = c.args.self.now.indexed;
}
