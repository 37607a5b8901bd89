use Rattle.node_links.specs.Nodes.{needs_of, node_count}
use Rattle.node_links.proofs.Around.{AreMarkedUpTo}
use Rattle.node_links.proofs.links.Links.marked_few.Given as goal

abbrev pub invariant-few : goal.invariant-few
invariant-few l = AreMarkedUpTo l.few (needs_of l.self) (node_count l.self) l.lists l.node-iterator
