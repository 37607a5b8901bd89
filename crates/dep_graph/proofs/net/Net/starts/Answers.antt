use Rattle.std.proofs.Common.{refl}
use Rattle.dep_graph.specs.internal.Arrows.{starts_of}
use Rattle.dep_graph.proofs.Listing.{flat_map_more}
use Rattle.dep_graph.proofs.net.Net.starts.Goals as goal

pub nodes-preserved : goal.nodes-preserved
nodes-preserved c = flat_map_more (starts_of c.args.self.now) c.args.nodes.now c.nodes.node-index _ _ c.nodes.starts.items c.add_starts.new.starts.items c.nodes-test.true refl c.nodes.invariant c.in_ok-add_starts.ensures
