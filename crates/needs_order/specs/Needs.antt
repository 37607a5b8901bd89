-- Nodes that need nodes, where following needs leads, and an order of them. Nodes are the numbers below the count of
-- the lists, and each list has the nodes that one of them needs. Source: this project's own.
use Rattle.std.specs.Prelude.{◌≡◌, ◌≢◌, ◌<◌, ◌↔◌, ◌==◌, ◌++◌, ℕ, Bool, true, false, List, [], ◌∷◌, length, map, IsTrue, slice_index_or}
use Rattle.std.specs.List.{list_any, All, AllPairs}
use Rattle.std.specs.declared.alloc.Global.{Global}
use Rattle.std.specs.declared.vec.Vec.{Vec}

-- the node is one of the list
abbrev pub has : ℕ → List ℕ → Bool
has a nodes = list_any (λ k. k == a) nodes

-- the lists as plain lists of numbers
abbrev pub lists_of : List (Vec ℕ Global) → List (List ℕ)
lists_of needs = map (λ list. list.items) needs

-- every number that is listed is a node
abbrev pub AreNodes : List (List ℕ) → Type 0
AreNodes lists = All (All (λ k. k < length lists)) lists

-- the first node needs the second
abbrev pub Needs : List (List ℕ) → ℕ → ℕ → Type 0
Needs lists a b = IsTrue (has b (slice_index_or lists a []))

-- following needs from the first node, one or more, comes to the second
pub data LeadsTo (lists : List (List ℕ)) : ℕ → ℕ → Type 0 where
  at_once : {a b : ℕ} → Needs lists a b → LeadsTo lists a b
  after : {a b c : ℕ} → Needs lists a b → LeadsTo lists b c → LeadsTo lists a c

-- each number below n is in the list once, and no other
abbrev pub IsEachOnce : ℕ → List ℕ → Type 0
IsEachOnce n nodes = ((a : ℕ) → a < n → IsTrue (has a nodes)) × All (λ a. a < n) nodes × AllPairs (λ a b. a ≢ b) nodes

-- a node is on a cycle exactly where needs lead from it back to it
abbrev pub CyclesAre : List (List ℕ) → List Bool → Type 0
CyclesAre lists on_cycle = (a : ℕ) → (slice_index_or on_cycle a false ≡ true) ↔ LeadsTo lists a a

-- all that a node's needs lead to stands before it, except what leads back to it
abbrev pub InOrder : List (List ℕ) → List ℕ → Type 0
InOrder lists nodes = (front back : List ℕ) (a b : ℕ) → nodes ≡ front ++ a ∷ back → LeadsTo lists a b → (LeadsTo lists b a → ⊥) → IsTrue (has b front)
