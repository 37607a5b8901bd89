use Rattle.node_links.specs.Nodes.{needs_of, node_count}
use Rattle.node_links.proofs.Around.{AreGatheredUpTo}
use Rattle.node_links.proofs.links.Links.gather_few.Given as goal

abbrev pub invariant-few : goal.invariant-few
invariant-few l = AreGatheredUpTo l.few (needs_of l.self) (node_count l.self) l.fn.lists l.lists l.node-iterator
