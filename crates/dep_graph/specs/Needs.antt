-- What nodes need, directly and through others. Source: this project's own.
use Rattle.std.specs.Prelude.{◌⊎◌, List, IsTrue}
use Rattle.dep_graph.specs.Nodes.{covers_node, has}
use Rattle.dep_graph.specs.declared.node.Node.{Node}

-- the nodes that each node was linked to; none for all but finitely many
abbrev pub Links : Type 0
Links = Node → List Node

-- some node is linked to this one
abbrev pub IsUsed : Links → Node → Type 0
IsUsed links a = (c : Node) × IsTrue (has a (links c))

-- the first node needs the second: it is linked to it, or is a used range that covers it
abbrev pub Needs : Links → Node → Node → Type 0
Needs links a b = IsTrue (has b (links a)) ⊎ (IsTrue (covers_node a b) × IsUsed links a)

-- following needs from the first node, one or more, comes to the second
pub data Chain (links : Links) : Node → Node → Type 0 where
  at_once : {a b : Node} → Needs links a b → Chain links a b
  after : {a b c : Node} → Needs links a b → Chain links b c → Chain links a c

-- needs lead from the node back to it
abbrev pub OnCycle : Links → Node → Type 0
OnCycle links a = Chain links a a

-- the node is one of the marks, or needs lead from it to one of them
abbrev pub Reaches : Links → List Node → Node → Type 0
Reaches links marks a = IsTrue (has a marks) ⊎ ((m : Node) × IsTrue (has m marks) × Chain links a m)
