-- Which nodes are stuck, by what they need alone: a stuck node needs a stuck one, and where each node that is left
-- over needs one that is left over too, all of these are stuck. Serves whatever works nodes out after their needs.
use Rattle.std.proofs.Common.{◌≡◌, ℕ, zero, suc, Bool, true, false, length, sym, ◌∙◌, subst, inl, inr, ⊎_elim}
use Rattle.std.proofs.lemmas.Bool.{false_from_ne_true, false≢true}
use Rattle.value_network.specs.Network.{Network, IsNetwork, LeadsTo, at_once, after, cyclic, stuck}
use Rattle.value_network.proofs.FollowedNeeds.{cycles_return, stuck_leads_to_cycle}
use Rattle.value_network.proofs.Stuck.{stuck_spreads, stuck_covers, cyclic_is_stuck}
use Rattle.value_network.proofs.Values.{Settled, settled}

module _ {K V : Type 0} (net : Network K V) (sound : IsNetwork net) where
  -- what needs lead from to a cycle needs a stuck node
  needs_stuck : {a b : K} → LeadsTo net a b → cyclic net b ≡ true → (c : K) × (net.needs a c ≡ true) × (stuck net c ≡ true)
  needs_stuck (at_once {b = b} need) on = (b, need, cyclic_is_stuck net sound b on)
  needs_stuck (after {b = c} {c = b} need rest) on = (c, need, (stuck_leads_to_cycle net sound c).1 (b, on, inr rest))

  -- a stuck node needs a stuck one
  pub stuck_needs_stuck : (a : K) → stuck net a ≡ true → (c : K) × (net.needs a c ≡ true) × (stuck net c ≡ true)
  stuck_needs_stuck a h =
      let way = (stuck_leads_to_cycle net sound a).0 h in
      ⊎_elim
      (λ (same : a ≡ way.0). needs_stuck ((cycles_return net sound a).0 (subst (λ x. cyclic net x ≡ true) (sym same) way.1)) (subst (λ x. cyclic net x ≡ true) (sym same) way.1))
      (λ far. needs_stuck far way.1)
      way.2

  -- a node that needs no stuck one isn't stuck
  pub free_by_needs : (a : K) → ((b : K) → net.needs a b ≡ true → stuck net b ≡ false) → stuck net a ≡ false
  free_by_needs a free = false_from_ne_true (stuck net a) λ h.
      let way = stuck_needs_stuck a h in
      false≢true (sym (free way.0 way.1) ∙ way.2)

  stuck_where_settled : (known : K → Bool) → ((a : K) → known a ≡ false → (b : K) × (net.needs a b ≡ true) × (known b ≡ false)) → (n : ℕ) (x : K) → Settled net (stuck net) n x → known x ≡ false → stuck net x ≡ true
  unfolding Settled
  stuck_where_settled known others zero x s unknown = absurd s
  stuck_where_settled known others (suc n) x (inl h) unknown = h
  stuck_where_settled known others (suc n) x (inr s) unknown =
      let next = others x unknown in
      stuck_spreads net sound x next.0 next.1 (stuck_where_settled known others n next.0 (s next.0 (at_once next.1)) next.2)

  -- where each node that is left over needs one that is left over, each of them is stuck
  pub left_over_is_stuck : (known : K → Bool) → ((a : K) → known a ≡ false → (b : K) × (net.needs a b ≡ true) × (known b ≡ false)) → (a : K) → known a ≡ false → stuck net a ≡ true
  left_over_is_stuck known others a out = stuck_where_settled known others (suc (length net.formulas)) a (settled net sound (stuck net) (stuck_covers net sound) a) out
