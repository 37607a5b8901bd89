-- Nodes that go over from one network to another. Source: this project's own.
use Rattle.std.specs.Prelude.{◌≡◌, ◌⊎◌, false, true, Option, Some, None}
use Rattle.value_network.specs.Network.{Network, cyclic, value}

-- what a node shows: what the one showed from which it came, or what is given of it where it came from none
abbrev pub shown_from : {K V : Type 0} → V → (K → V) → Option K → V
shown_from given shown (Some c) = shown c
shown_from given shown None = given

abbrev pub carried : {K L V : Type 0} → (L → Option K) → (L → V) → (K → V) → L → V
carried back given shown a = shown_from (given a) shown (back a)

-- the node needs nothing
abbrev pub Idle : {K V : Type 0} → Network K V → K → Type 0
Idle {K} net a = (b : K) → net.needs a b ≡ false

-- what each node of the second network shows where the first one's values are carried over
abbrev pub values_carried : {K L V : Type 0} → Network K V → (L → Option K) → (L → V) → L → V
values_carried one back given = carried back given (value one (cyclic one))

-- a set of nodes of the second network, with all that they need, that came from nodes of the first one or show what is given
-- of them. Needs of nodes that need nothing may differ, as what these show tells
pub record GoesOver {K L V : Type 0} (one : Network K V) (two : Network L V) (back : L → Option K) (given : L → V) (Inside : L → Type 0) : Type 0 where
  pub cycle : one.cycle ≡ two.cycle
  pub closed : (a b : L) → Inside a → two.needs a b ≡ true → Inside b
  -- no two came from one
  pub apart : (a b : L) (c : K) → Inside a → Inside b → back a ≡ Some c → back b ≡ Some c → a ≡ b
  -- what the first node needed is where it comes from, and what the second one needs came from there
  pub forth : (a : L) (c d : K) → Inside a → back a ≡ Some c → one.needs c d ≡ true → Idle one d ⊎ ((b : L) × (back b ≡ Some d) × (two.needs a b ≡ true))
  pub there : (a b : L) (c : K) → Inside a → back a ≡ Some c → two.needs a b ≡ true → Idle two b ⊎ ((d : K) × (back b ≡ Some d) × (one.needs c d ≡ true))
  -- it works out the same from what is carried over
  pub own : (a : L) (c : K) → Inside a → back a ≡ Some c → cyclic one c ≡ false → two.own (values_carried one back given) a ≡ one.own (value one (cyclic one)) c
  -- a node that came from none needs nothing, and works out what is given of it
  pub bare : (a : L) → Inside a → back a ≡ None → Idle two a × (two.own (values_carried one back given) a ≡ given a)
