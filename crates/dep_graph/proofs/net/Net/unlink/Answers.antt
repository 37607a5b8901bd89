use Rattle.std.proofs.Common.{◌∙◌, []}
use Rattle.dep_graph.specs.internal.Keys.{key_of}
use Rattle.node_links.specs.Nodes.{needs_of}
use Rattle.dep_graph.proofs.Adding.{was_need}
use Rattle.dep_graph.proofs.Growing.{relinked_at}
use Rattle.dep_graph.proofs.Listing.{some_number}
use Rattle.dep_graph.proofs.net.Net.unlink.Goals as goal

pub returns-in-Some : goal.returns-in-Some
returns-in-Some c =
    let (is, inside) = some_number c.args.self.now.nodes.keys.keys (key_of c.args.self.now.nodes.lines c.args.a) c.in-Some.node c.in-Some.ensures in
    relinked_at c.args.self.now c.unlink.new.self c.args.a c.in-Some.node [] inside is c.unlink.ensures.needs

pub invariant_of-self : goal.invariant_of-self
invariant_of-self c = record {
  counts = c.unlink.ensures.count ∙ c.args.self.now.counts;
  rooms = c.args.self.now.rooms;
  alive = λ a n h. c.args.self.now.alive a n (was_need (needs_of c.unlink.new.self) (needs_of c.args.self.now.links) c.in-Some.node c.unlink.ensures.needs a n h);
  filed = c.args.self.now.filed;
  used = λ a n h. c.args.self.now.used a n (was_need (needs_of c.unlink.new.self) (needs_of c.args.self.now.links) c.in-Some.node c.unlink.ensures.needs a n h);
  indexed = c.args.self.now.indexed;
}
