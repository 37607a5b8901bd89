-- Nodes that arrows join, and where arrows lead. Nodes are numbers. Source: this project's own.
use Rattle.std.specs.Prelude.{◌≡◌, ◌≢◌, ◌<◌, ◌⊎◌, ◌↔◌, ◌++◌, ℕ, Bool, true, false, List, ◌∷◌, length, IsTrue, slice_index_or}
use Rattle.std.specs.List.{AllPairs}
use Rattle.needs_order.specs.Needs.{has}

-- following arrows from the first node, one or more, comes to the second
pub data LeadsTo (targets : ℕ → List ℕ) : ℕ → ℕ → Type 0 where
  at_once : {a b : ℕ} → IsTrue (has b (targets a)) → LeadsTo targets a b
  after : {a b c : ℕ} → IsTrue (has b (targets a)) → LeadsTo targets b c → LeadsTo targets a c

-- the node is one of the starts, or arrows lead to it from one of them
abbrev pub IsReached : (ℕ → List ℕ) → List ℕ → ℕ → Type 0
IsReached targets starts b = IsTrue (has b starts) ⊎ ((a : ℕ) × IsTrue (has a starts) × LeadsTo targets a b)

-- the list has the reached nodes, each once, and no other
abbrev pub AreReached : (ℕ → List ℕ) → List ℕ → List ℕ → Type 0
AreReached targets starts nodes = ((b : ℕ) → IsTrue (has b nodes) ↔ IsReached targets starts b) × AllPairs (λ a b. a ≢ b) nodes

-- at the place of each node stands whether arrows lead from it back to it
abbrev pub CyclesAre : (ℕ → List ℕ) → List ℕ → List Bool → Type 0
CyclesAre targets nodes on_cycle = (i : ℕ) → i < length nodes → (slice_index_or on_cycle i false ≡ true) ↔ LeadsTo targets (slice_index_or nodes i 0) (slice_index_or nodes i 0)

-- all to which a node's arrows lead stands before it, except what leads back to it
abbrev pub InOrder : (ℕ → List ℕ) → List ℕ → Type 0
InOrder targets nodes = (front back : List ℕ) (a b : ℕ) → nodes ≡ front ++ a ∷ back → LeadsTo targets a b → (LeadsTo targets b a → ⊥) → IsTrue (has b front)
