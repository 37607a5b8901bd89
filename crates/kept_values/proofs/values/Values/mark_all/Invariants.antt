use Rattle.std.proofs.Common.{◌≡◌, ◌++◌, take}
use Rattle.dep_graph.specs.Nodes.{has}
use Rattle.dep_graph.specs.declared.node.Node.{Node}
use Rattle.kept_values.specs.Values.{asks_in, kept_in, links_in, loses_in, marks_in, seeks_in, unlinked_in}
use Rattle.kept_values.proofs.values.Values.mark_all.Given as goal

-- the nodes so far were marked
abbrev pub invariant-nodes : goal.invariant-nodes
invariant-nodes l = record {
  marked : (c : Node) → has c (marks_in l.self) ≡ has c (marks_in l.fn.self ++ take l.node-index l.nodes);
  unlinked : (c : Node) → has c (unlinked_in l.self) ≡ has c (unlinked_in l.fn.self ++ take l.node-index l.nodes);
  links : links_in l.self ≡ links_in l.fn.self;
  asking : asks_in l.self ≡ asks_in l.fn.self;
  losing : loses_in l.self ≡ loses_in l.fn.self;
  seeking : seeks_in l.self ≡ seeks_in l.fn.self;
  kept : kept_in l.self ≡ kept_in l.fn.self;
}
