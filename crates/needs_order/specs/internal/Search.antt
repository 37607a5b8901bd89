-- How far a search in depth has come: which nodes are closed, and which stand on the path, in stretches, one for each
-- node whose needs are being gone through.
use Rattle.std.specs.Prelude.{◌≡◌, ◌≢◌, ◌↔◌, ◌+◌, ◌*◌, ◌<◌, ◌≤◌, ◌⊎◌, ◌++◌, ⊤, ℕ, Bool, true, false, List, [], ◌∷◌, length, filter, min, reverse, take, drop, if◌then◌else◌, slice_index, slice_index_or, slice_set}
use Rattle.std.specs.List.{AllPairs}
use Rattle.needs_order.specs.Needs.{has, Needs, LeadsTo, InOrder}
use Rattle.needs_order.specs.declared.search.Mark.{Mark}
use Rattle.needs_order.specs.declared.search.Mark.TheVariants.{Unseen, Open, Closed}
use Rattle.needs_order.specs.declared.search.Visit.{Visit}
use Rattle.needs_order.specs.declared.search.Search.{Search}

-- the nodes that a node needs
abbrev pub needs_of : List (List ℕ) → ℕ → List ℕ
needs_of lists a = slice_index_or lists a []

-- how far the search has come with a node
abbrev pub mark_at : List Mark → ℕ → Mark
mark_at marks a = slice_index_or marks a Unseen

abbrev pub is_unseen : Mark → Bool
is_unseen Unseen = true
is_unseen (Open place) = false
is_unseen Closed = false

-- how many nodes weren't met yet
abbrev pub unseen : List Mark → ℕ
unseen marks = length (filter is_unseen marks)

-- a list with one value at each of these places
abbrev pub with_each : {T : Type 0} → List T → List ℕ → T → List T
with_each list [] value = list
with_each list (a ∷ places) value = with_each (slice_set list a value) places value

-- a node with this mark is closed, or stands on the path at the place `low` or above
abbrev pub IsSettled : ℕ → Mark → Type 0
IsSettled low Unseen = ⊥
IsSettled low (Open place) = low ≤ place
IsSettled low Closed = ⊤

-- the marks say which nodes are in the order, and which stand where on the path
pub record AreMarks (lists : List (List ℕ)) (marks : List Mark) (path order : List ℕ) : Type 0 where
  pub count : length marks ≡ length lists
  pub stands : (i : ℕ) → i < length path → mark_at marks (slice_index path i) ≡ Open i
  pub open_at : (a i : ℕ) → mark_at marks a ≡ Open i → (i < length path) × (slice_index path i ≡ a)
  pub closed : (a : ℕ) → mark_at marks a ≡ Closed → has a order ≡ true
  pub placed : (a : ℕ) → has a order ≡ true → mark_at marks a ≡ Closed

-- the closed nodes: with each all that it needs, in order, and known to be on a cycle or not
pub record AreClosed (lists : List (List ℕ)) (order : List ℕ) (on_cycle : List Bool) : Type 0 where
  pub count : length on_cycle ≡ length lists
  pub once : AllPairs (λ a b. a ≢ b) order
  pub needs : (a b : ℕ) → has a order ≡ true → Needs lists a b → has b order ≡ true
  pub cycles : (a : ℕ) → has a order ≡ true → (slice_index_or on_cycle a false ≡ true) ↔ LeadsTo lists a a
  pub others : (a : ℕ) → has a order ≡ false → slice_index_or on_cycle a false ≡ false
  pub in_order : InOrder lists order

-- each node of the path leads to all above it
abbrev pub IsPath : List (List ℕ) → List ℕ → Type 0
IsPath lists path = (i j : ℕ) → i < j → j < length path → LeadsTo lists (slice_index path i) (slice_index path j)

-- the stretch of the path from a visited node up to the place `end`: all its nodes lead back to the visited one, the
-- others' needs are all settled, and so are the visited one's that were gone through
pub record IsStretch (lists : List (List ℕ)) (marks : List Mark) (path : List ℕ) (visit : Visit) (end : ℕ) : Type 0 where
  pub inside : visit.place < end
  pub stands : slice_index path visit.place ≡ visit.node
  pub returns : (i : ℕ) → visit.place < i → i < end → LeadsTo lists (slice_index path i) visit.node
  pub gone_through : (m : ℕ) → m < visit.next → m < length (needs_of lists visit.node) → IsSettled visit.low (mark_at marks (slice_index (needs_of lists visit.node) m))
  pub finished : (i b : ℕ) → visit.place < i → i < end → Needs lists (slice_index path i) b → IsSettled visit.low (mark_at marks b)
  pub back : visit.low ≤ visit.place → LeadsTo lists visit.node (slice_index path visit.low)
  pub cycle : visit.place + 1 < end → visit.low ≤ visit.place

-- the stretches of these visits, the last begun first, make up the path below the place `end`
abbrev pub AreStretches : List (List ℕ) → List Mark → List ℕ → ℕ → List Visit → Type 0
AreStretches lists marks path end [] = end ≡ 0
AreStretches lists marks path end (visit ∷ visits) = IsStretch lists marks path visit end × AreStretches lists marks path visit.place visits

-- a search with these visits under way, the last begun first
pub record IsSound (lists : List (List ℕ)) (s : Search) (visits : List Visit) : Type 0 where
  pub marks : AreMarks lists s.marks.items s.path.items s.order.items
  pub closed : AreClosed lists s.order.items s.on_cycle.items
  pub path : IsPath lists s.path.items
  pub stretches : AreStretches lists s.marks.items s.path.items (length s.path.items) visits

-- a search between two visits, with nothing on the path
abbrev pub IsIdle : List (List ℕ) → Search → Type 0
IsIdle lists s = IsSound lists s [] × (s.visits.items ≡ [])

-- what was met stays so
abbrev pub KeepsMet : Search → Search → Type 0
KeepsMet old new = (a : ℕ) → mark_at new.marks.items a ≡ Unseen → mark_at old.marks.items a ≡ Unseen

-- how many steps are left at most, with so many visits under way
abbrev pub steps_left : List Mark → ℕ → ℕ
steps_left marks visits = 2 * unseen marks + visits

-- the search goes on from a visit: it stays sound, and fewer steps are left
pub record GoesOn (lists : List (List ℕ)) (old new : Search) : Type 0 where
  pub sound : IsSound lists new (reverse new.visits.items)
  pub met : KeepsMet old new
  pub fewer : steps_left new.marks.items (length new.visits.items) < steps_left old.marks.items (length old.visits.items + 1)

-- a visit from which needs lead back to this place too
abbrev pub lowered : Visit → ℕ → Visit
lowered visit low = record visit { low = min visit.low low }

-- the visit after going through more needs: all before the next one are settled, and that one wasn't met yet
pub record GoesThrough (needs : List ℕ) (marks : List Mark) (old new : Visit) : Type 0 where
  pub node : new.node ≡ old.node
  pub place : new.place ≡ old.place
  pub lower : new.low ≤ old.low
  pub low : (new.low ≡ old.low) ⊎ ((m : ℕ) × (m < length needs) × (mark_at marks (slice_index needs m) ≡ Open new.low))
  pub settled : (m : ℕ) → old.next ≤ m → m < new.next → m < length needs → IsSettled new.low (mark_at marks (slice_index needs m))
  pub found : new.next < length needs → mark_at marks (slice_index needs new.next) ≡ Unseen

-- a node that is met now stands at the end of the path, and its visit begins
pub record Opens (node : ℕ) (old new : Search) : Type 0 where
  pub marks : new.marks.items ≡ slice_set old.marks.items node (Open (length old.path.items))
  pub path : new.path.items ≡ old.path.items ++ node ∷ []
  pub visits : new.visits.items ≡ old.visits.items ++ record { node = node; place = length old.path.items; next = 0; low = length old.path.items + 1 } ∷ []
  pub order : new.order.items ≡ old.order.items
  pub on_cycle : new.on_cycle.items ≡ old.on_cycle.items

-- the nodes of the path from a place on are closed, and on a cycle or not
pub record Closes (place : ℕ) (are_on_cycle : Bool) (old new : Search) : Type 0 where
  pub marks : new.marks.items ≡ with_each old.marks.items (drop place old.path.items) Closed
  pub path : new.path.items ≡ take place old.path.items
  pub visits : new.visits.items ≡ old.visits.items
  pub order : new.order.items ≡ old.order.items ++ drop place old.path.items
  pub on_cycle : new.on_cycle.items ≡ (if are_on_cycle then with_each old.on_cycle.items (drop place old.path.items) true else old.on_cycle.items)
