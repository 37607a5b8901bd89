-- What a graph answers: all nodes that reach some marks, and nodes in order. Source: this project's own.
use Rattle.std.specs.Prelude.{◌≡◌, ◌≢◌, ◌↔◌, ◌++◌, List, ◌∷◌, IsTrue}
use Rattle.std.specs.List.{AllPairs}
use Rattle.dep_graph.specs.Nodes.{has}
use Rattle.dep_graph.specs.Needs.{Chain, Links, OnCycle, Reaches}
use Rattle.dep_graph.specs.declared.node.Node.{Node}

-- no node stands twice
abbrev pub IsOnce : List Node → Type 0
IsOnce nodes = AllPairs (λ a b. a ≢ b) nodes

-- exactly the nodes that reach a mark, each once
abbrev pub AreReached : Links → List Node → List Node → Type 0
AreReached links marks nodes = ((a : Node) → IsTrue (has a nodes) ↔ Reaches links marks a) × IsOnce nodes

-- each node stands after all of the list that its needs lead to
abbrev pub InOrder : Links → List Node → Type 0
InOrder links order = (front back : List Node) (a b : Node) → order ≡ front ++ a ∷ back → IsTrue (has b order) → Chain links a b → IsTrue (has b front)

-- exactly those of the nodes that are on no cycle, each once and after all of them that its needs lead to
pub record IsOrdered (links : Links) (nodes order : List Node) : Type 0 where
  pub which : (a : Node) → IsTrue (has a order) ↔ (IsTrue (has a nodes) × ¬ OnCycle links a)
  pub once : IsOnce order
  pub in_order : InOrder links order
