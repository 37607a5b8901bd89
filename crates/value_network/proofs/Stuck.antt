-- What needs a node that reaches some ends reaches them too. Serves the laws on what is stuck.
use Rattle.std.proofs.Common.{◌≡◌, ℕ, zero, suc, Bool, true, false, List, [], ◌∷◌, length, filter, sym, ◌∙◌, ⊎_elim}
use Rattle.std.proofs.lemmas.Bool.{or_cases, or_left, or_right, false_from_ne_true, false≢true}
use Rattle.value_network.specs.Network.{Network, IsNetwork, has, leads, cyclic, reaches, stuck}
use Rattle.value_network.specs.Laws.{StuckSpreads, FreeNeedsFree, CyclicIsStuck, CoversCycles}
use Rattle.value_network.proofs.ListTests.{any_from, has-filter, Contains-from_has}
use Rattle.value_network.proofs.Chains.{leads_at_once, leads_longer, leads_from_formula}
use Rattle.value_network.proofs.ShortChains.{short_chains}

module _ {K V : Type 0} (net : Network K V) (sound : IsNetwork net) where
  -- a node of the ends reaches them
  pub reaches_at_once : (ends : List K) (a : K) → has net a ends ≡ true → reaches net ends a ≡ true
  reaches_at_once ends a h = or_left (has net a ends) (leads net (length net.formulas) a ends) h

  -- a node from which a chain of any length leads to the ends reaches them
  pub reaches_by_chain : (ends : List K) (n : ℕ) (a : K) → leads net n a ends ≡ true → reaches net ends a ≡ true
  reaches_by_chain ends n a h = or_right (has net a ends) (leads net (length net.formulas) a ends) (short_chains net sound n a ends h)

  -- what needs a node that reaches the ends reaches them
  pub reaches_back : (ends : List K) (a b : K) → net.needs a b ≡ true → reaches net ends b ≡ true → reaches net ends a ≡ true
  reaches_back ends a b need h = ⊎_elim
      (λ inside. reaches_by_chain ends (suc zero) a (leads_at_once net zero a ends (any_from (net.needs a) ends b (Contains-from_has net sound ends b inside) need)))
      (λ chain. reaches_by_chain ends (suc (length net.formulas)) a (leads_longer net sound (length net.formulas) a b ends need chain))
      (or_cases (has net b ends) (leads net (length net.formulas) b ends) h)

  -- a node that does not reach the ends needs none that does
  pub not_reaching_back : (ends : List K) (a b : K) → reaches net ends a ≡ false → net.needs a b ≡ true → reaches net ends b ≡ false
  not_reaching_back ends a b out need = false_from_ne_true (reaches net ends b) λ h. false≢true (sym out ∙ reaches_back ends a b need h)

  -- what needs a stuck node is stuck
  pub stuck_spreads : StuckSpreads net
  stuck_spreads a b need h = reaches_back (filter (cyclic net) net.formulas) a b need h

  -- a node that is not stuck needs no stuck node
  pub free_needs_free : FreeNeedsFree net
  free_needs_free a b out need = not_reaching_back (filter (cyclic net) net.formulas) a b out need

  -- a node on a cycle is stuck
  pub cyclic_is_stuck : CyclicIsStuck net
  cyclic_is_stuck a h = reaches_at_once (filter (cyclic net) net.formulas) a (has-filter net sound (cyclic net) net.formulas a (leads_from_formula net sound (length net.formulas) a (a ∷ []) h) h)

  -- the stuck nodes, taken as bad, hold every cycle
  pub stuck_covers : CoversCycles net (stuck net)
  stuck_covers = cyclic_is_stuck

module _ {K V : Type 0} (net : Network K V) where
  -- the nodes on a cycle, taken as bad, hold every cycle
  pub cyclic_covers : CoversCycles net (cyclic net)
  cyclic_covers a h = h

  -- where no node is on a cycle, any choice of bad nodes holds every cycle
  pub no_cycle_covers : (bad : K → Bool) → ((a : K) → cyclic net a ≡ false) → CoversCycles net bad
  no_cycle_covers bad none a h = absurd (false≢true (sym (none a) ∙ h))
