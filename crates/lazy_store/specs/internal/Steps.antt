-- What the steps of a holder along the line do to what it keeps.
use Rattle.std.specs.Prelude.{◌≡◌, ◌≢◌, ℕ, ◌+◌, ◌<◌, ◌≤◌, List, length, Some, None}
use Rattle.run_walk.specs.Run.{home_back, home_over, tree_back, tree_over}
use Rattle.shift_core.specs.declared.shift.Shift.{Shift}
use Rattle.shift_line.specs.Track.{Track}
use Rattle.lazy_store.specs.Kept.{Kept, IsCoherent, at, standing}
use Rattle.lazy_store.specs.Standing.{IsSavedOver, after, before}

-- what the operation at the position loses of the tree is saved, and all other saved trees stay
pub record Saves (s : Shift) (old new : Kept) : Type 0 where
  pub saved : IsSavedOver s (standing old) (new.saved old.position)
  pub others : (k : ℕ) → k ≢ old.position → new.saved k ≡ old.saved k

-- no tree is saved at the position any more, and all other saved trees stay
pub record Takes (position : ℕ) (old new : Kept) : Type 0 where
  pub saved : new.saved position ≡ None
  pub others : (k : ℕ) → k ≢ position → new.saved k ≡ old.saved k

-- over an operation to the next position
pub record GoesOn (s : Shift) (old new : Kept) : Type 0 where
  pub position : new.position ≡ old.position + 1
  pub here : after s (standing old) ≡ Some (standing new)
  pub saved : IsSavedOver s (standing old) (new.saved old.position)
  pub others : (k : ℕ) → k ≢ old.position → new.saved k ≡ old.saved k
  pub birth : new.birth ≡ old.birth
  pub live : new.live ≡ old.live

-- over a run of operations, with the tree that they make one after the other; nothing is saved
pub record GoesOver (run : List Shift) (old new : Kept) : Type 0 where
  pub position : new.position ≡ old.position + length run
  pub home : home_over run old.home ≡ Some new.home
  pub tree : (standing new).tree ≡ tree_over run (standing old).tree
  pub saved : (k : ℕ) → new.saved k ≡ old.saved k
  pub birth : new.birth ≡ old.birth
  pub live : new.live ≡ old.live

-- and back over a run of operations, with the tree that the way back makes of them; no saved tree is taken
pub record GoesBackOver (run : List Shift) (old new : Kept) : Type 0 where
  pub position : old.position ≡ new.position + length run
  pub home : home_back run old.home ≡ Some new.home
  pub tree : (standing new).tree ≡ tree_back run (standing old).tree
  pub saved : (k : ℕ) → new.saved k ≡ old.saved k
  pub birth : new.birth ≡ old.birth
  pub live : new.live ≡ old.live

-- and back over one operation
pub record GoesBack (s : Shift) (old new : Kept) : Type 0 where
  pub position : old.position ≡ new.position + 1
  pub here : before s (old.saved new.position) (standing old) ≡ Some (standing new)
  pub saved : new.saved new.position ≡ None
  pub others : (k : ℕ) → k ≢ new.position → new.saved k ≡ old.saved k
  pub birth : new.birth ≡ old.birth
  pub live : new.live ≡ old.live

-- along the line to another position: the formula has the standings that it had, at every position
pub record GoesAlong (line : Track) (old new : Kept) : Type 0 where
  pub at : (k : ℕ) → at line new k ≡ at line old k
  pub coherent : IsCoherent line new
  pub birth : new.birth ≡ old.birth
  pub live : new.live ≡ old.live

-- the trees that were saved before a position are gone
pub record CutsOff (k : ℕ) (old new : Kept) : Type 0 where
  pub below : (j : ℕ) → j < k → new.saved j ≡ None
  pub others : (j : ℕ) → k ≤ j → new.saved j ≡ old.saved j
  pub position : new.position ≡ old.position
  pub home : new.home ≡ old.home
  pub tree : new.tree ≡ old.tree
  pub birth : new.birth ≡ old.birth
  pub live : new.live ≡ old.live
