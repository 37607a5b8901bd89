-- What holds of the values of a network, said of one network so that a contract can cite it. Source: this project's own.
use Rattle.std.specs.Prelude.{◌≡◌, ◌<◌, ◌⊎◌, ◌↔◌, ℕ, Bool, true, false, List, length}
use Rattle.value_network.specs.Network.{Network, IsNetwork, LeadsTo, leads, cyclic, stuck, round, rounds, value}

-- the nodes on a cycle are those from which following needs comes back to them
abbrev pub CyclesReturn : {K V : Type 0} → Network K V → Type 0
CyclesReturn {K} net = (a : K) → (cyclic net a ≡ true) ↔ LeadsTo net a a

-- the stuck nodes are those on a cycle, and those from which following needs comes to one
abbrev pub StuckLeadsToCycle : {K V : Type 0} → Network K V → Type 0
StuckLeadsToCycle {K} net = (a : K) → (stuck net a ≡ true) ↔ ((b : K) × (cyclic net b ≡ true) × ((a ≡ b) ⊎ LeadsTo net a b))

-- the stuck nodes are those from which following needs comes to a node from which it comes back to that node
abbrev pub StuckReturns : {K V : Type 0} → Network K V → Type 0
StuckReturns {K} net = (a : K) → (stuck net a ≡ true) ↔ ((b : K) × LeadsTo net a b × LeadsTo net b b)

-- every node on a cycle is bad
abbrev pub CoversCycles : {K V : Type 0} → Network K V → (K → Bool) → Type 0
CoversCycles {K} net bad = (a : K) → cyclic net a ≡ true → bad a ≡ true

-- no node is on a cycle
abbrev pub HasNoCycle : {K V : Type 0} → Network K V → Type 0
HasNoCycle {K} net = (a : K) → cyclic net a ≡ false

-- a good node shows what it works out from what the others show, a bad one a cycle's value
abbrev pub Unfolds : {K V : Type 0} → Network K V → (K → Bool) → Type 0
Unfolds {K} net bad = (a : K) → value net bad a ≡ round net bad (value net bad) a

-- a set of nodes has with each of its nodes all that this node needs
abbrev pub IsClosed : {K V : Type 0} → Network K V → (K → Bool) → Type 0
IsClosed {K} net inside = (a b : K) → inside a ≡ true → net.needs a b ≡ true → inside b ≡ true

-- only the values of the nodes unfold so: whatever else unfolds on a closed set of nodes shows the same there
abbrev pub IsUnique : {K V : Type 0} → Network K V → (K → Bool) → Type 0
IsUnique {K} {V} net bad = (inside : K → Bool) (shown : K → V) → IsClosed net inside → ((a : K) → inside a ≡ true → shown a ≡ round net bad shown a) → (a : K) → inside a ≡ true → shown a ≡ value net bad a

-- more rounds than there are formulas give the values, whatever the nodes showed at first
abbrev pub Settles : {K V : Type 0} → Network K V → (K → Bool) → Type 0
Settles {K} {V} net bad = (n : ℕ) (shown : K → V) (a : K) → length net.formulas < n → rounds net bad n shown a ≡ value net bad a

-- a good node works out its own value where the nodes that following its needs comes to already show theirs
abbrev pub WorksInPlace : {K V : Type 0} → Network K V → (K → Bool) → Type 0
WorksInPlace {K} {V} net bad = (a : K) (shown : K → V) → bad a ≡ false → ((b : K) → LeadsTo net a b → shown b ≡ value net bad b) → net.own shown a ≡ value net bad a

-- a chain of any number of needs can be cut to no more links than there are formulas
abbrev pub HasShortChains : {K V : Type 0} → Network K V → Type 0
HasShortChains {K} net = (n : ℕ) (a : K) (ends : List K) → leads net n a ends ≡ true → leads net (length net.formulas) a ends ≡ true

-- what needs a stuck node is stuck
abbrev pub StuckSpreads : {K V : Type 0} → Network K V → Type 0
StuckSpreads {K} net = (a b : K) → net.needs a b ≡ true → stuck net b ≡ true → stuck net a ≡ true

-- a node that is not stuck needs no stuck node
abbrev pub FreeNeedsFree : {K V : Type 0} → Network K V → Type 0
FreeNeedsFree {K} net = (a b : K) → stuck net a ≡ false → net.needs a b ≡ true → stuck net b ≡ false

-- a node on a cycle is stuck
abbrev pub CyclicIsStuck : {K V : Type 0} → Network K V → Type 0
CyclicIsStuck {K} net = (a : K) → cyclic net a ≡ true → stuck net a ≡ true

-- each node needs only nodes of a lower rank
abbrev pub NeedsLower : {K V : Type 0} → Network K V → (K → ℕ) → Type 0
NeedsLower {K} net rank = (a b : K) → net.needs a b ≡ true → rank b < rank a

-- each node needs only earlier nodes
abbrev pub NeedsEarlier : {K V : Type 0} → Network K V → (K → K → Bool) → Type 0
NeedsEarlier {K} net earlier = (a b : K) → net.needs a b ≡ true → earlier b a ≡ true

-- the first of three that come one after another is earlier than the last
abbrev pub IsTransitive : {K : Type 0} → (K → K → Bool) → Type 0
IsTransitive {K} earlier = (a b c : K) → earlier a b ≡ true → earlier b c ≡ true → earlier a c ≡ true

-- nothing is earlier than itself
abbrev pub IsIrreflexive : {K : Type 0} → (K → K → Bool) → Type 0
IsIrreflexive {K} earlier = (a : K) → earlier a a ≡ false

-- needs of lower rank alone make no cycle
abbrev pub RanksForbidCycles : {K V : Type 0} → Network K V → Type 0
RanksForbidCycles {K} net = (rank : K → ℕ) → NeedsLower net rank → HasNoCycle net

-- needs of earlier nodes alone make no cycle
abbrev pub OrdersForbidCycles : {K V : Type 0} → Network K V → Type 0
OrdersForbidCycles {K} net = (earlier : K → K → Bool) → IsTransitive earlier → IsIrreflexive earlier → NeedsEarlier net earlier → HasNoCycle net

-- the law holds whatever nodes are bad, as long as every node on a cycle is
abbrev pub WhateverIsBad : {K V : Type 0} → (Network K V → (K → Bool) → Type 0) → Network K V → Type 0
WhateverIsBad {K} Law net = (bad : K → Bool) → CoversCycles net bad → Law net bad

-- the law holds of every network of these nodes and values
abbrev pub OfEach : (K V : Type 0) → (Network K V → Type 0) → Type 0
OfEach K V Law = (net : Network K V) → IsNetwork net → Law net
