-- Where needs go only to nodes of a lower rank, or to earlier nodes, no node is on a cycle.
use Rattle.std.proofs.Common.{◌≡◌, ℕ, ◌<◌, Bool, true, [], ◌∷◌, length, sym, ◌∙◌, arith}
use Rattle.std.proofs.lemmas.Bool.{false_from_ne_true, false≢true}
use Rattle.value_network.specs.Network.{Network, LeadsTo, at_once, after, leads, cyclic}
use Rattle.value_network.specs.Laws.{NeedsLower, NeedsEarlier, IsTransitive, RanksForbidCycles, OrdersForbidCycles}
use Rattle.value_network.proofs.Chains.{leads_carries}

module _ {K V : Type 0} (net : Network K V) where
  -- a chain leads to a node of a lower rank
  pub leads_lower : (rank : K → ℕ) → NeedsLower net rank → (n : ℕ) (a b : K) → leads net n a (b ∷ []) ≡ true → rank b < rank a
  leads_lower rank lower n a b h = leads_carries net (λ x y. rank x < rank y) lower (λ x y z p q. omega (arith, p, q)) n a b h

  -- following needs comes to nodes of a lower rank
  pub led_lower : (rank : K → ℕ) → NeedsLower net rank → {a b : K} → LeadsTo net a b → rank b < rank a
  led_lower rank lower (at_once {a = a} {b = b} need) = lower a b need
  led_lower rank lower (after {a = a} {b = b} {c = c} need rest) =
      let below = lower a b need in
      let more = led_lower rank lower rest in
      omega (arith, below, more)

  -- a chain leads to an earlier node
  pub leads_earlier : (earlier : K → K → Bool) → IsTransitive earlier → NeedsEarlier net earlier → (n : ℕ) (a b : K) → leads net n a (b ∷ []) ≡ true → earlier b a ≡ true
  leads_earlier earlier joins needs n a b h = leads_carries net (λ x y. earlier x y ≡ true) needs (λ x y z p q. joins z y x q p) n a b h

  -- needs of lower rank alone make no cycle
  pub no_cycle_by_rank : RanksForbidCycles net
  no_cycle_by_rank rank lower a = false_from_ne_true (cyclic net a) λ h.
      let below = leads_lower rank lower (length net.formulas) a a h in omega (arith, below)

  -- needs of earlier nodes alone make no cycle
  pub no_cycle_by_order : OrdersForbidCycles net
  no_cycle_by_order earlier joins never needs a = false_from_ne_true (cyclic net a) λ h.
      false≢true (sym (never a) ∙ leads_earlier earlier joins needs (length net.formulas) a a h)
