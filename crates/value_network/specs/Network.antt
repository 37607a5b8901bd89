-- What each cell of a workbook shows, over a small network of nodes. Source: this project's own.
use Rattle.std.specs.Prelude.{◌≡◌, ◌&&◌, ◌||◌, ℕ, zero, suc, Bool, true, false, List, [], ◌∷◌, length, filter, if◌then◌else◌}
use Rattle.std.specs.List.{list_any}

-- nodes of type K, such as a workbook's cells, that show values of type V
pub record Network (K V : Type 0) : Type 0 where
  -- the nodes that have a formula; a node that is listed twice does no harm
  pub formulas : List K
  -- whether two nodes are one
  pub same : K → K → Bool
  -- whether the first node's formula mentions the second node
  pub needs : K → K → Bool
  -- what a node works out where every node shows the given value
  pub own : (K → V) → K → V
  -- what a node on a cycle shows
  pub cycle : V

-- the node is one of the list
abbrev pub has : {K V : Type 0} → Network K V → K → List K → Bool
has net a nodes = list_any (net.same a) nodes

-- following needs from the first node, one or more, comes to the second
pub data LeadsTo {K V : Type 0} (net : Network K V) : K → K → Type 0 where
  at_once : {a b : K} → net.needs a b ≡ true → LeadsTo net a b
  after : {a b c : K} → net.needs a b ≡ true → LeadsTo net b c → LeadsTo net a c

-- a chain of 1 to n needs leads from the node to one of the list
unfoldable pub leads : {K V : Type 0} → Network K V → ℕ → K → List K → Bool
leads net zero a ends = false
leads net (suc n) a ends = list_any (net.needs a) ends || list_any (λ b. net.needs a b && leads net n b ends) net.formulas

-- the node is on a cycle: a chain of needs leads from it back to it, of no more links than there are formulas
abbrev pub cyclic : {K V : Type 0} → Network K V → K → Bool
cyclic net a = leads net (length net.formulas) a (a ∷ [])

-- the node is one of the list, or a chain of needs leads from it to one
abbrev pub reaches : {K V : Type 0} → Network K V → List K → K → Bool
reaches net ends a = has net a ends || leads net (length net.formulas) a ends

-- the node is on a cycle, or a chain of needs leads from it to a cycle
abbrev pub stuck : {K V : Type 0} → Network K V → K → Bool
stuck net a = reaches net (filter (cyclic net) net.formulas) a

-- what a node shows after every node is worked out once more. Which nodes are bad, and show a cycle's value, is
-- the rule's choice: those on a cycle, or all that are stuck
abbrev pub round : {K V : Type 0} → Network K V → (K → Bool) → (K → V) → K → V
round net bad shown a = if bad a then net.cycle else net.own shown a

-- what a node shows after n rounds
unfoldable pub rounds : {K V : Type 0} → Network K V → (K → Bool) → ℕ → (K → V) → K → V
rounds net bad zero shown = shown
rounds net bad (suc n) shown = round net bad (rounds net bad n shown)

-- what a node shows: a round for each formula and one more; from any start they give the same, and this one is a
-- cycle's value everywhere
abbrev pub value : {K V : Type 0} → Network K V → (K → Bool) → K → V
value net bad = rounds net bad (suc (length net.formulas)) (λ _. net.cycle)

-- the parts of a network fit together
pub record IsNetwork {K V : Type 0} (net : Network K V) : Type 0 where
  -- nodes that are called the same are equal
  pub same_equal : (a b : K) → net.same a b ≡ true → a ≡ b
  -- each node is the same as itself
  pub same_self : (a : K) → net.same a a ≡ true
  -- only a node with a formula needs others
  pub needs_formula : (a b : K) → net.needs a b ≡ true → has net a net.formulas ≡ true
  -- what a node works out rests on the values of the nodes that following its needs comes to, and on no other
  pub reads_needs : (a : K) (v w : K → V) → ((b : K) → LeadsTo net a b → v b ≡ w b) → net.own v a ≡ net.own w a
