-- What is picked from a walk over the numbers of nodes.
use Rattle.std.specs.Prelude.{◌≡◌, ◌<◌, ◌≤◌, ◌↔◌, ◌++◌, ℕ, Bool, not, ◌&&◌, List, [], ◌∷◌, if◌then◌else◌, IsTrue}
use Rattle.needs_order.specs.Needs as plain
use Rattle.dep_graph.specs.Nodes.{has}
use Rattle.dep_graph.specs.Walks.{IsOnce}
use Rattle.dep_graph.specs.declared.net.Net.{Net}
use Rattle.dep_graph.specs.declared.node.Node.{Node}
use Rattle.dep_graph.specs.internal.Arrows.{node_total}
use Rattle.dep_graph.specs.internal.Numbers.{place_of}

-- those of the nodes that have no number, each once
abbrev pub AreUnknown : Net → List Node → List Node → Type 0
AreUnknown net nodes unknown = ((a : Node) → IsTrue (has a unknown) ↔ (IsTrue (has a nodes) × (node_total net ≤ place_of net.nodes a))) × IsOnce unknown

-- the numbers of those of the nodes that have one
abbrev pub AreKnown : Net → List Node → List ℕ → Type 0
AreKnown net nodes known = (n : ℕ) → IsTrue (plain.has n known) ↔ ((a : Node) × IsTrue (has a nodes) × (n ≡ place_of net.nodes a) × (n < node_total net))

-- the number where it is known and not marked
abbrev pub pick : List ℕ → ℕ → Bool → List ℕ
pick known n mark = if plain.has n known && not mark then n ∷ [] else []

-- the known numbers of a walk that aren't marked, the last first
abbrev pub picks : List ℕ → List ℕ → List Bool → List ℕ
picks known [] marks = []
picks known (n ∷ walk) [] = []
picks known (n ∷ walk) (mark ∷ marks) = picks known walk marks ++ pick known n mark
