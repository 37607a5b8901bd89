-- Lists of needs for the nodes whose links change where few nodes get other targets.
use Rattle.std.specs.Prelude.{◌≡◌, ◌↔◌, ◌⊎◌, ◌<◌, ◌==◌, ◌&&◌, not, ℕ, Bool, true, List, [], ◌∷◌, Option, Some, None, IsTrue, IsSome, filter_map, option_map, unwrap_or, if◌then◌else◌, ⊤}
use Rattle.std.specs.BTreeMap as tree
use Rattle.std.specs.List.{list_any}
use Rattle.std.specs.Ordering.{nat_cmp}
use Rattle.smallvec.specs.SmallVec.{SmallVec}
use Rattle.needs_order.specs.Needs.{has}
use Rattle.node_links.specs.Redirect.{few_target, is_among}
use Rattle.node_links.specs.declared.change.Change.{Change}
use Rattle.node_links.specs.declared.node_set.NodeSet.{NodeSet}
use Rattle.node_links.specs.internal.Sets.{is_in, nodes_in}

-- the list for a node
abbrev pub list_at : tree.BTreeMap ℕ (SmallVec ℕ) → ℕ → Option (List ℕ)
list_at lists a = option_map (λ l. l.items) (tree.get nat_cmp lists a)

-- the numbers in the list for a node
abbrev pub listed_at : tree.BTreeMap ℕ (SmallVec ℕ) → ℕ → List ℕ
listed_at lists a = unwrap_or (list_at lists a) []

-- the targets of what a node needs that stays its own target
abbrev pub own_list : tree.BTreeMap ℕ (Option ℕ) → (ℕ → List ℕ) → ℕ → List ℕ
own_list few needs a = if is_among few a then [] else filter_map (few_target few) (needs a)

-- a node has that list, or none
abbrev pub AreOwn : tree.BTreeMap ℕ (Option ℕ) → (ℕ → List ℕ) → tree.BTreeMap ℕ (SmallVec ℕ) → Type 0
AreOwn few needs lists = (a : ℕ) → (list_at lists a ≡ None) ⊎ (list_at lists a ≡ Some (own_list few needs a))

-- only nodes below have a list
abbrev pub AreRows : ℕ → tree.BTreeMap ℕ (SmallVec ℕ) → Type 0
AreRows n lists = (a : ℕ) → IsSome (list_at lists a) → a < n

-- what had a list has one
abbrev pub StillMarked : tree.BTreeMap ℕ (SmallVec ℕ) → tree.BTreeMap ℕ (SmallVec ℕ) → Type 0
StillMarked old new = (a : ℕ) → IsSome (list_at old a) → IsSome (list_at new a)

-- the node has a list, and so has its target
abbrev pub IsMarked : tree.BTreeMap ℕ (Option ℕ) → tree.BTreeMap ℕ (SmallVec ℕ) → ℕ → Type 0
IsMarked few lists n = IsSome (list_at lists n) × ((t : ℕ) → few_target few n ≡ Some t → IsSome (list_at lists t))

-- so have the node and each that needs it
abbrev pub AreAround : tree.BTreeMap ℕ (Option ℕ) → (ℕ → List ℕ) → tree.BTreeMap ℕ (SmallVec ℕ) → ℕ → Type 0
AreAround few needs lists n = IsMarked few lists n × ((u : ℕ) → has n (needs u) ≡ true → IsMarked few lists u)

-- a link between the targets of two linked nodes
abbrev pub IsRedirectedTo : tree.BTreeMap ℕ (Option ℕ) → (ℕ → List ℕ) → ℕ → ℕ → Type 0
IsRedirectedTo few needs t u = (n : ℕ) × (m : ℕ) × (few_target few n ≡ Some t) × IsTrue (has m (needs n)) × (few_target few m ≡ Some u)

-- each list has exactly the targets of the needs of the nodes that have its node for their target
abbrev pub GathersFew : tree.BTreeMap ℕ (Option ℕ) → (ℕ → List ℕ) → tree.BTreeMap ℕ (SmallVec ℕ) → Type 0
GathersFew few needs lists = (t u : ℕ) → IsTrue (has u (listed_at lists t)) ↔ (IsSome (list_at lists t) × IsRedirectedTo few needs t u)

-- the needs that a node gets by the first of its changes
abbrev pub given : List Change → ℕ → Option (List ℕ)
given [] a = None
given (c ∷ changes) a = if a == c.node then Some c.needs.items else given changes a

-- the changes are of several nodes below, and as sets the same
abbrev pub AreReady : ℕ → List Change → Type 0
AreReady n [] = ⊤
AreReady n (c ∷ changes) =
    (c.node < n) × ((x : ℕ) → has x (nodes_in c.now) ≡ has x c.needs.items) × ((x : ℕ) → has x c.needs.items ≡ true → x < n)
    × (given changes c.node ≡ None) × AreReady n changes

-- the changes know which nodes theirs needed
abbrev pub KnowBefore : (ℕ → ℕ → Bool) → List Change → Type 0
KnowBefore needed [] = ⊤
KnowBefore needed (c ∷ changes) = ((x : ℕ) → has x (nodes_in c.was) ≡ needed c.node x) × KnowBefore needed changes

-- the changes of the nodes that have a list
abbrev pub AreChanges : ℕ → (ℕ → List ℕ) → tree.BTreeMap ℕ (SmallVec ℕ) → List Change → Type 0
AreChanges n needs lists changes =
    ((a : ℕ) → given changes a ≡ list_at lists a) × AreReady n changes × KnowBefore (λ b x. has x (needs b)) changes

-- a change puts the node into the set of the place
abbrev pub puts : List Change → ℕ → ℕ → Bool
puts changes i x = list_any (λ c. has i c.needs.items && x == c.node) changes

-- a change takes it from there again, unless it was there
abbrev pub drops : List Change → ℕ → ℕ → Bool
drops changes i x = list_any (λ c. (has i c.needs.items && not (has i (nodes_in c.was))) && x == c.node) changes

-- some nodes were put
pub record ArePutInPart (old : List NodeSet) (changes : List Change) (new : List NodeSet) : Type 0 where
  pub kept : (i x : ℕ) → is_in old i x ≡ true → is_in new i x ≡ true
  pub only : (i x : ℕ) → is_in new i x ≡ true → (is_in old i x ≡ true) ⊎ (puts changes i x ≡ true)
