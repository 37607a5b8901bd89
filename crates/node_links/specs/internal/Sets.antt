-- Sets of numbers, one for each of some places.
use Rattle.std.specs.Prelude.{◌≡◌, ◌∷◌, ◌⊎◌, ℕ, Bool, true, List, [], map, slice_index_or}
use Rattle.needs_order.specs.Needs.{has}
use Rattle.node_links.specs.declared.node_set.NodeSet.{NodeSet}
use Rattle.node_links.specs.declared.node_set.NodeSet.TheVariants.{Empty, One, More}

-- the nodes in a set, in their order
abbrev pub nodes_in : NodeSet → List ℕ
nodes_in Empty = []
nodes_in (One node) = node ∷ []
nodes_in (More set) = set.keys

-- what is in the set at a place; nothing past the last
abbrev pub users_at : List NodeSet → ℕ → List ℕ
users_at sets i = slice_index_or (map nodes_in sets) i []

-- the item is in the set at the place
abbrev pub is_in : List NodeSet → ℕ → ℕ → Bool
is_in sets i x = has x (users_at sets i)

-- the item was put into the sets at some of the places
pub record IsPartlyPut (old : List NodeSet) (places : List ℕ) (item : ℕ) (new : List NodeSet) : Type 0 where
  pub kept : (i x : ℕ) → is_in old i x ≡ true → is_in new i x ≡ true
  pub only : (i x : ℕ) → is_in new i x ≡ true → (is_in old i x ≡ true) ⊎ ((has i places ≡ true) × (x ≡ item))
