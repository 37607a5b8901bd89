-- A chain of any length can be cut to no more links than there are formulas: the nodes that lead to
-- the ends within n links grow with n, or stand still from there on.
use Rattle.std.proofs.Common.{◌≡◌, ℕ, zero, suc, ◌≤◌, ◌⊎◌, Bool, true, List, [], ◌∷◌, length, refl, inl, inr, ⊎_elim, arith, zero-le}
use Rattle.std.proofs.lemmas.Bool.{cases_lt}
use Rattle.value_network.specs.Network.{Network, IsNetwork, leads, cyclic}
use Rattle.value_network.specs.Laws.{HasShortChains}
use Rattle.value_network.proofs.Counts.{passing, passing_still, passing_all}
use Rattle.value_network.proofs.Chains.{leads_more, leads_first, leads_at_once, leads_from_formula, leads_longer, no_chain_of_none}

module _ {K V : Type 0} (net : Network K V) (sound : IsNetwork net) (ends : List K) where
  -- whether a node leads to the ends within n links
  abbrev leading : ℕ → K → Bool
  leading n a = leads net n a ends

  -- where one link more brings no new node, no chain does
  stands_still : (n : ℕ) → ((a : K) → leading (suc n) a ≡ true → leading n a ≡ true) → (m : ℕ) (a : K) → leading m a ≡ true → leading n a ≡ true
  stands_still n still zero a h = no_chain_of_none net a ends h
  stands_still n still (suc m) a h = still a (⊎_elim
      (λ once. leads_at_once net n a ends once)
      (λ on. leads_longer net sound n a on.0 ends on.2 (stands_still n still m on.0 on.3))
      (leads_first net m a ends h))

  -- the nodes that lead within n links are all that lead, or they are at least n
  grows_or_whole : (n : ℕ) → ((m : ℕ) (a : K) → leading m a ≡ true → leading n a ≡ true) ⊎ (n ≤ passing (leading n) net.formulas)
  grows_or_whole zero = inr zero-le
  grows_or_whole (suc n) = ⊎_elim
      (λ whole. inl λ m a h. leads_more net n a ends (whole m a h))
      (λ many. ⊎_elim
      (λ rises. inr (omega (arith, many, rises)))
      (λ still. inl λ m a h. leads_more net n a ends (stands_still n (λ b up. passing_still net.same (leading n) (leading (suc n)) net.formulas b (sound.same_equal b) (λ c. leads_more net n c ends) still (leads_from_formula net sound (suc n) b ends up) up) m a h))
      (cases_lt (passing (leading n) net.formulas) (passing (leading (suc n)) net.formulas)))
      (grows_or_whole n)

  -- each chain to these ends can be cut
  cut : (n : ℕ) (a : K) → leading n a ≡ true → leading (length net.formulas) a ≡ true
  cut n a h = ⊎_elim
      (λ whole. whole n a h)
      (λ many. passing_still net.same (leading (length net.formulas)) (λ _. true) net.formulas a (sound.same_equal a) (λ b _. refl) (let all = passing_all net.formulas in omega (arith, many, all)) (leads_from_formula net sound n a ends h) refl)
      (grows_or_whole (length net.formulas))

module _ {K V : Type 0} (net : Network K V) (sound : IsNetwork net) where
  -- a chain of any number of needs can be cut to no more links than there are formulas
  pub short_chains : HasShortChains net
  short_chains n a ends h = cut net sound ends n a h

  -- a node from which a chain of any length leads back to it is on a cycle
  pub chains_find_cycles : (n : ℕ) (a : K) → leads net n a (a ∷ []) ≡ true → cyclic net a ≡ true
  chains_find_cycles n a h = short_chains n a (a ∷ []) h
