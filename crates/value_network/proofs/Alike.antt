-- Two networks that do the same on a set of nodes with all that they need show the same values there.
-- Serves changes of a workbook that leave some of its cells as they were.
use Rattle.std.proofs.Common.{◌≡◌, ℕ, zero, suc, Bool, true, false, if◌then◌else◌, List, [], ◌∷◌, length, sym, refl, ap, ap₂, ◌∙◌, ⊎_elim}
use Rattle.std.specs.Prelude.{⊤}
use Rattle.value_network.specs.Network.{Network, IsNetwork, leads, cyclic, value}
use Rattle.value_network.specs.Laws.{CoversCycles, HasNoCycle}
use Rattle.value_network.proofs.ListTests.{any_wider, equal_from_both}
use Rattle.value_network.proofs.Chains.{leads_first, leads_at_once, leads_longer, no_chain_of_none}
use Rattle.value_network.proofs.ShortChains.{short_chains}
use Rattle.value_network.proofs.Stuck.{cyclic_covers, no_cycle_covers}
use Rattle.value_network.proofs.Values.{unfolds, unique_on}

-- the nodes of the set need the same nodes in both networks, and these are in the set too
pub record NeedAlike {K V : Type 0} (one two : Network K V) (Inside : K → Type 0) : Type 0 where
  pub needs_same : (a b : K) → Inside a → one.needs a b ≡ two.needs a b
  pub closed : (a b : K) → Inside a → one.needs a b ≡ true → Inside b

module _ {K V : Type 0} (one two : Network K V) (Inside : K → Type 0) where
  -- alike is alike the other way round
  pub NeedAlike-flip : NeedAlike one two Inside → NeedAlike two one Inside
  NeedAlike-flip alike = record {
    needs_same = λ a b inside. sym (alike.needs_same a b inside);
    closed = λ a b inside need. alike.closed a b inside (alike.needs_same a b inside ∙ need);
  }

  -- a chain of the one is a chain of the other
  pub leads_alike : IsNetwork two → NeedAlike one two Inside → (n : ℕ) (a : K) (ends : List K) → Inside a → leads one n a ends ≡ true → leads two n a ends ≡ true
  leads_alike sound alike zero a ends inside h = no_chain_of_none one a ends h
  leads_alike sound alike (suc n) a ends inside h = ⊎_elim
      (λ once. leads_at_once two n a ends (any_wider (one.needs a) (two.needs a) ends (λ b _ need. sym (alike.needs_same a b inside) ∙ need) once))
      (λ on. leads_longer two sound n a on.0 ends (sym (alike.needs_same a on.0 inside) ∙ on.2) (leads_alike sound alike n on.0 ends (alike.closed a on.0 inside on.2) on.3))
      (leads_first one n a ends h)

  -- where what they show follows from what they need alike, they show the same
  pub values_alike : (sound : IsNetwork one) (sound_two : IsNetwork two) (bad bad_two : K → Bool) → CoversCycles one bad → CoversCycles two bad_two → NeedAlike one two Inside → one.cycle ≡ two.cycle → ((a : K) → Inside a → bad a ≡ bad_two a) → ((a : K) (shown : K → V) → Inside a → one.own shown a ≡ two.own shown a) → (a : K) → Inside a → value one bad a ≡ value two bad_two a
  values_alike sound sound_two bad bad_two covers covers_two alike cycle_same bad_same own_same a inside = unique_on two sound_two bad_two covers_two Inside (value one bad)
      (λ x y here need. alike.closed x y here (alike.needs_same x y here ∙ need))
      (λ x here. unfolds one sound bad covers x ∙ ap (λ b. if b then one.cycle else one.own (value one bad) x) (bad_same x here) ∙ ap₂ (λ c v. if bad_two x then c else v) cycle_same (own_same x (value one bad) here))
      a inside

module _ {K V : Type 0} (one two : Network K V) (Inside : K → Type 0) (sound : IsNetwork one) (sound_two : IsNetwork two) (alike : NeedAlike one two Inside) where
  -- the same nodes of the set are on a cycle
  pub cyclic_alike : (a : K) → Inside a → cyclic one a ≡ cyclic two a
  cyclic_alike a inside = equal_from_both (cyclic one a) (cyclic two a)
      (λ h. short_chains two sound_two (length one.formulas) a (a ∷ []) (leads_alike one two Inside sound_two alike (length one.formulas) a (a ∷ []) inside h))
      (λ h. short_chains one sound (length two.formulas) a (a ∷ []) (leads_alike two one Inside sound (NeedAlike-flip one two Inside alike) (length two.formulas) a (a ∷ []) inside h))

  -- the same nodes of the set have a chain to the ends
  pub chains_alike : (ends : List K) (a : K) → Inside a → leads one (length one.formulas) a ends ≡ leads two (length two.formulas) a ends
  chains_alike ends a inside = equal_from_both (leads one (length one.formulas) a ends) (leads two (length two.formulas) a ends)
      (λ h. short_chains two sound_two (length one.formulas) a ends (leads_alike one two Inside sound_two alike (length one.formulas) a ends inside h))
      (λ h. short_chains one sound (length two.formulas) a ends (leads_alike two one Inside sound (NeedAlike-flip one two Inside alike) (length two.formulas) a ends inside h))

module _ {K V : Type 0} (net : Network K V) (sound : IsNetwork net) where
  -- choices of bad nodes that agree give the same values
  pub value_by_bad : (bad other : K → Bool) → CoversCycles net bad → CoversCycles net other → ((a : K) → bad a ≡ other a) → (a : K) → value net bad a ≡ value net other a
  value_by_bad bad other covers covers_other same a = values_alike net net (λ _. ⊤) sound sound bad other covers covers_other (record { needs_same = λ x y _. refl; closed = λ _ _ _ _. tt }) refl (λ x _. same x) (λ x shown _. refl) a tt

  -- where no node is on a cycle, the values are those without bad nodes
  pub value-no_cycle : HasNoCycle net → (a : K) → value net (cyclic net) a ≡ value net (λ _. false) a
  value-no_cycle none a = value_by_bad (cyclic net) (λ _. false) (cyclic_covers net) (no_cycle_covers net (λ _. false) none) none a
