-- Chains by their tests and by following needs are one: serves the laws that say what cyclic and stuck mean.
use Rattle.std.proofs.Common.{◌≡◌, ℕ, zero, suc, ◌⊎◌, true, false, [], ◌∷◌, length, filter, sym, refl, subst, inl, inr, ⊎_elim}
use Rattle.std.proofs.lemmas.Bool.{or_cases, or_left}
use Rattle.value_network.specs.Network.{Network, IsNetwork, LeadsTo, at_once, after, has, leads, cyclic, stuck}
use Rattle.value_network.specs.Laws.{CyclesReturn, StuckLeadsToCycle, StuckReturns}
use Rattle.value_network.proofs.ListTests.{has-from_Contains, has-filter_gives}
use Rattle.value_network.proofs.Chains.{leads_at_once, leads_longer, leads_to_one, leads_carries}
use Rattle.value_network.proofs.ShortChains.{chains_find_cycles}
use Rattle.value_network.proofs.Stuck.{cyclic_is_stuck, stuck_spreads}

module _ {K V : Type 0} (net : Network K V) where
  -- following needs twice is following needs
  pub LeadsTo-join : {a b c : K} → LeadsTo net a b → LeadsTo net b c → LeadsTo net a c
  LeadsTo-join (at_once need) second = after need second
  LeadsTo-join (after need first) second = after need (LeadsTo-join first second)

  -- following needs begins with one
  pub first_need : {a b : K} → LeadsTo net a b → (c : K) × (net.needs a c ≡ true)
  first_need (at_once {b = b} need) = (b, need)
  first_need (after {b = b} need rest) = (b, need)

  -- what has all that its nodes need has all that following their needs comes to
  pub led_inside : (Inside : K → Type 0) → ((a b : K) → Inside a → net.needs a b ≡ true → Inside b) → {a b : K} → Inside a → LeadsTo net a b → Inside b
  led_inside Inside closed inside (at_once {a = a} {b = b} need) = closed a b inside need
  led_inside Inside closed inside (after {a = a} {b = b} need rest) = led_inside Inside closed (closed a b inside need) rest

  -- a chain is needs that are followed
  pub LeadsTo-from_leads : (n : ℕ) (a b : K) → leads net n a (b ∷ []) ≡ true → LeadsTo net a b
  LeadsTo-from_leads n a b h = leads_carries net (λ y x. LeadsTo net x y) (λ x y need. at_once need) (λ x y z first second. LeadsTo-join first second) n a b h

module _ {K V : Type 0} (net : Network K V) (sound : IsNetwork net) where
  -- needs that are followed are a chain
  pub leads-from_LeadsTo : {a b : K} → LeadsTo net a b → (n : ℕ) × (leads net n a (b ∷ []) ≡ true)
  leads-from_LeadsTo (at_once {a = a} {b = b} need) = (suc zero, leads_at_once net zero a (b ∷ []) (or_left (net.needs a b) false need))
  leads-from_LeadsTo (after {a = a} {b = b} {c = c} need rest) =
      let (n, chain) = leads-from_LeadsTo rest in
      (suc n, leads_longer net sound n a b (c ∷ []) need chain)

  -- the nodes on a cycle are those from which following needs comes back to them
  pub cycles_return : CyclesReturn net
  cycles_return a = (λ h. LeadsTo-from_leads net (length net.formulas) a a h, λ back. let (n, chain) = leads-from_LeadsTo back in chains_find_cycles net sound n a chain)

  -- following needs to a stuck node starts from a stuck one
  stuck_after : {a b : K} → LeadsTo net a b → stuck net b ≡ true → stuck net a ≡ true
  stuck_after (at_once {a = a} {b = b} need) h = stuck_spreads net sound a b need h
  stuck_after (after {a = a} {b = b} need rest) h = stuck_spreads net sound a b need (stuck_after rest h)

  -- the stuck nodes are those on a cycle, and those from which following needs comes to one
  pub stuck_leads_to_cycle : StuckLeadsToCycle net
  stuck_leads_to_cycle a = (
    found,
    λ way. ⊎_elim
        (λ same. subst (λ x. stuck net x ≡ true) (sym same) (cyclic_is_stuck net sound way.0 way.1))
        (λ far. stuck_after far (cyclic_is_stuck net sound way.0 way.1))
        way.2,
  )
    where
      found : stuck net a ≡ true → (b : K) × (cyclic net b ≡ true) × ((a ≡ b) ⊎ LeadsTo net a b)
      found h = ⊎_elim
          (λ inside. (a, (has-filter_gives net sound (cyclic net) net.formulas a inside).1, inl refl))
          (λ chain.
          let (b, inside, to_one) = leads_to_one net (length net.formulas) a (filter (cyclic net) net.formulas) chain in
          (b, (has-filter_gives net sound (cyclic net) net.formulas b (has-from_Contains net sound (filter (cyclic net) net.formulas) b inside)).1, inr (LeadsTo-from_leads net (length net.formulas) a b to_one)))
          (or_cases (has net a (filter (cyclic net) net.formulas)) (leads net (length net.formulas) a (filter (cyclic net) net.formulas)) h)

  -- the stuck nodes are those from which following needs comes to a node on a cycle
  pub stuck_returns : StuckReturns net
  stuck_returns a = (
    λ h.
        let way = (stuck_leads_to_cycle a).0 h in
        let back = (cycles_return way.0).0 way.1 in
        (way.0, ⊎_elim (λ (same : a ≡ way.0). subst (λ x. LeadsTo net x way.0) (sym same) back) (λ far. far) way.2, back),
    λ way. (stuck_leads_to_cycle a).1 (way.0, (cycles_return way.0).1 way.2, inr way.1),
  )
