-- How far the arrows have been followed: the nodes that were found, and for the first of them the places of those to
-- which their arrows lead.
use Rattle.std.specs.Prelude.{◌≡◌, ◌≢◌, ◌<◌, ◌≤◌, ◌⊎◌, ◌++◌, ℕ, true, List, [], length, slice_index_or}
use Rattle.std.specs.List.{AllPairs}
use Rattle.needs_order.specs.Needs.{has}
use Rattle.node_reach.specs.Arrows.{IsReached}

-- a node is put at the end of the list unless it is there, and has this place in it
pub record IsPut (old : List ℕ) (node : ℕ) (new : List ℕ) (place : ℕ) : Type 0 where
  pub grown : (more : List ℕ) × (new ≡ old ++ more)
  pub only : (a : ℕ) → has a new ≡ true → (has a old ≡ true) ⊎ (a ≡ node)
  pub inside : place < length new
  pub stands : slice_index_or new place 0 ≡ node

-- nodes are put at the end of the list unless they are there
pub record ArePut (old nodes new : List ℕ) : Type 0 where
  pub grown : (more : List ℕ) × (new ≡ old ++ more)
  pub only : (a : ℕ) → has a new ≡ true → (has a old ≡ true) ⊎ (has a nodes ≡ true)

-- the nodes stand at these places of the list
pub record AreAt (list nodes places : List ℕ) : Type 0 where
  pub count : length places ≡ length nodes
  pub inside : (i : ℕ) → i < length places → slice_index_or places i 0 < length list
  pub stand : (i : ℕ) → i < length places → slice_index_or list (slice_index_or places i 0) 0 ≡ slice_index_or nodes i 0

-- what was found so far, and the places of the targets of its first nodes
pub record IsUnderWay (count : ℕ) (targets : ℕ → List ℕ) (starts found : List ℕ) (lists : List (List ℕ)) : Type 0 where
  pub starts_in : (a : ℕ) → has a starts ≡ true → has a found ≡ true
  pub only : (a : ℕ) → has a found ≡ true → IsReached targets starts a
  pub nodes : (a : ℕ) → has a found ≡ true → a < count
  pub within : length lists ≤ length found
  pub lists_at : (i : ℕ) → i < length lists → AreAt found (targets (slice_index_or found i 0)) (slice_index_or lists i [])

-- all was found: each node once, with the places of its targets
pub record IsExplored (count : ℕ) (targets : ℕ → List ℕ) (starts found : List ℕ) (lists : List (List ℕ)) : Type 0 where
  pub under_way : IsUnderWay count targets starts found lists
  pub all : length lists ≡ length found
  pub once : AllPairs (λ a b. a ≢ b) found
