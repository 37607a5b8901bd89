use Rattle.node_links.specs.Nodes.{needs_of, node_count}
use Rattle.node_links.proofs.Making.{AreMade}
use Rattle.node_links.proofs.links.Links.changes.Given as goal

-- the entries gone by are made changes
abbrev pub invariant-loop-node : goal.invariant-loop-node
invariant-loop-node l = AreMade (node_count l.self) (needs_of l.self) l.fn.lists l.changes.items l.node-iterator
