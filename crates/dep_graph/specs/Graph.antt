-- What a graph stands for. Source: this project's own.
use Rattle.std.specs.Prelude.{◌≡◌, List, if◌then◌else◌}
use Rattle.dep_graph.specs.Needs.{Links}
use Rattle.dep_graph.specs.Nodes.{same_node}
use Rattle.dep_graph.specs.declared.graph.Graph.{Graph}
use Rattle.dep_graph.specs.declared.node.Node.{Node}
use Rattle.dep_graph.specs.internal.Nets.{links_in}

-- the nodes that each node was linked to
abbrev pub links_of : Graph → Links
links_of g = links_in g.net.value

-- the links where one node's are replaced
abbrev pub AreLinked : Node → List Node → Links → Links → Type 0
AreLinked a needs old new = (x : Node) → new x ≡ (if same_node x a then needs else old x)

-- the links of both are the same
abbrev pub AreSame : Links → Links → Type 0
AreSame old new = (x : Node) → new x ≡ old x
