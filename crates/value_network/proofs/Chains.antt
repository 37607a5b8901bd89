-- Chains of needs: how they begin, grow and join. Serves the laws on cycles and on what is stuck.
use Rattle.std.proofs.Common.{◌≡◌, ℕ, zero, suc, ◌+◌, ◌≤◌, ◌&&◌, ◌||◌, ◌⊎◌, Bool, true, false, List, [], ◌∷◌, Contains, sym, refl, ◌∙◌, subst, inl, inr, ⊎_elim, arith, suc-add}
use Rattle.std.specs.List.{list_any}
use Rattle.std.proofs.lemmas.Bool.{or_cases, or_left, or_right, and_parts, and_from, false≢true, cases_lt}
use Rattle.value_network.specs.Network.{Network, IsNetwork, has, leads}
use Rattle.value_network.proofs.ListTests.{any_gives, any_from, Contains-from_has}

module _ {K V : Type 0} (net : Network K V) where
  -- no chain has no link
  pub leads-zero : (a : K) (ends : List K) → leads net zero a ends ≡ false
  unfolding leads
  leads-zero a ends = refl

  -- a need of the node leads on to one of the list
  abbrev pub leads_on : ℕ → K → List K → Bool
  leads_on n a ends = list_any (λ b. net.needs a b && leads net n b ends) net.formulas

  -- a chain is one need, or a need and a chain
  pub leads-suc : (n : ℕ) (a : K) (ends : List K) → leads net (suc n) a ends ≡ (list_any (net.needs a) ends || list_any (λ b. net.needs a b && leads net n b ends) net.formulas)
  unfolding leads
  leads-suc n a ends = refl

  -- a node that needs one of the list leads to it
  pub leads_at_once : (n : ℕ) (a : K) (ends : List K) → list_any (net.needs a) ends ≡ true → leads net (suc n) a ends ≡ true
  leads_at_once n a ends h = leads-suc n a ends ∙ or_left (list_any (net.needs a) ends) (leads_on n a ends) h

  -- a node that needs a formula with a chain leads where the chain does
  pub leads_after : (n : ℕ) (a b : K) (ends : List K) → Contains net.formulas b → net.needs a b ≡ true → leads net n b ends ≡ true → leads net (suc n) a ends ≡ true
  leads_after n a b ends inside need chain = leads-suc n a ends ∙ or_right (list_any (net.needs a) ends) (leads_on n a ends) (any_from (λ c. net.needs a c && leads net n c ends) net.formulas b inside (and_from (net.needs a b) (leads net n b ends) need chain))

  -- the first need of a chain
  pub leads_first : (n : ℕ) (a : K) (ends : List K) → leads net (suc n) a ends ≡ true → (list_any (net.needs a) ends ≡ true) ⊎ ((b : K) × Contains net.formulas b × (net.needs a b ≡ true) × (leads net n b ends ≡ true))
  leads_first n a ends h = ⊎_elim inl (λ on. inr (next on)) (or_cases (list_any (net.needs a) ends) (leads_on n a ends) (sym (leads-suc n a ends) ∙ h))
    where
      next : leads_on n a ends ≡ true → (b : K) × Contains net.formulas b × (net.needs a b ≡ true) × (leads net n b ends ≡ true)
      next on =
          let (b, inside, both) = any_gives (λ c. net.needs a c && leads net n c ends) net.formulas on in
          let (need, chain) = and_parts (net.needs a b) (leads net n b ends) both in
          (b, inside, need, chain)

  -- no chain has no link
  pub no_chain_of_none : {P : Type 0} (a : K) (ends : List K) → leads net zero a ends ≡ true → P
  no_chain_of_none a ends h = absurd (false≢true (sym (leads-zero a ends) ∙ h))

  -- a chain of at most n links is one of at most n + 1
  pub leads_more : (n : ℕ) (a : K) (ends : List K) → leads net n a ends ≡ true → leads net (suc n) a ends ≡ true
  leads_more zero a ends h = no_chain_of_none a ends h
  leads_more (suc n) a ends h = ⊎_elim
      (λ once. leads_at_once (suc n) a ends once)
      (λ on. leads_after (suc n) a on.0 ends on.1 on.2 (leads_more n on.0 ends on.3))
      (leads_first n a ends h)

  -- a chain of at most n links is one of at most m where n ≤ m
  pub leads_within : (m n : ℕ) (a : K) (ends : List K) → n ≤ m → leads net n a ends ≡ true → leads net m a ends ≡ true
  leads_within zero n a ends le h = subst (λ k. leads net k a ends ≡ true) (omega (arith, le)) h
  leads_within (suc m) n a ends le h = ⊎_elim
      (λ lt. subst (λ k. leads net k a ends ≡ true) (omega (arith, le, lt)) h)
      (λ below. leads_more m a ends (leads_within m n a ends below h))
      (cases_lt m n)

  -- a chain to a list ends at one of its nodes
  pub leads_to_one : (n : ℕ) (a : K) (ends : List K) → leads net n a ends ≡ true → (b : K) × Contains ends b × (leads net n a (b ∷ []) ≡ true)
  leads_to_one zero a ends h = no_chain_of_none a ends h
  leads_to_one (suc n) a ends h = ⊎_elim
      (λ once. let (b, inside, need) = any_gives (net.needs a) ends once in (b, inside, leads_at_once n a (b ∷ []) (or_left (net.needs a b) false need)))
      (λ on. let (b, inside, chain) = leads_to_one n on.0 ends on.3 in (b, inside, leads_after n a on.0 (b ∷ []) on.1 on.2 chain))
      (leads_first n a ends h)

  -- what each need of a chain gives from its end to its start, the whole chain gives
  pub leads_carries : (Below : K → K → Type 0) → ((a b : K) → net.needs a b ≡ true → Below b a) → ((a b c : K) → Below b a → Below c b → Below c a) → (n : ℕ) (a b : K) → leads net n a (b ∷ []) ≡ true → Below b a
  leads_carries Below each joins zero a b h = no_chain_of_none a (b ∷ []) h
  leads_carries Below each joins (suc n) a b h = ⊎_elim
      (λ once. ⊎_elim (λ need. each a b need) (λ never. absurd (false≢true never)) (or_cases (net.needs a b) false once))
      (λ on. joins a on.0 b (each a on.0 on.2) (leads_carries Below each joins n on.0 b on.3))
      (leads_first n a (b ∷ []) h)

module _ {K V : Type 0} (net : Network K V) (sound : IsNetwork net) where
  -- a chain begins at a formula
  pub leads_from_formula : (n : ℕ) (a : K) (ends : List K) → leads net n a ends ≡ true → has net a net.formulas ≡ true
  leads_from_formula zero a ends h = no_chain_of_none net a ends h
  leads_from_formula (suc n) a ends h = ⊎_elim
      (λ once. let (b, inside, need) = any_gives (net.needs a) ends once in sound.needs_formula a b need)
      (λ on. sound.needs_formula a on.0 on.2)
      (leads_first net n a ends h)

  -- a need and a chain from the node needed are a chain
  pub leads_longer : (n : ℕ) (a b : K) (ends : List K) → net.needs a b ≡ true → leads net n b ends ≡ true → leads net (suc n) a ends ≡ true
  leads_longer n a b ends need chain = leads_after net n a b ends (Contains-from_has net sound net.formulas b (leads_from_formula n b ends chain)) need chain

  -- two chains join: the first leads to a list, and from each of its nodes there is a second
  pub leads_join : (n m : ℕ) (a : K) (middles ends : List K) → leads net n a middles ≡ true → ((b : K) → Contains middles b → leads net m b ends ≡ true) → leads net (n + m) a ends ≡ true
  leads_join zero m a middles ends h second = no_chain_of_none net a middles h
  leads_join (suc n) m a middles ends h second = subst (λ k. leads net k a ends ≡ true) (sym (suc-add n m)) (⊎_elim
      (λ once. let (b, inside, need) = any_gives (net.needs a) middles once in leads_within net (suc (n + m)) (suc m) a ends (omega arith) (leads_longer m a b ends need (second b inside)))
      (λ on. leads_longer (n + m) a on.0 ends on.2 (leads_join n m on.0 middles ends on.3 second))
      (leads_first net n a middles h))

  -- a chain to a node, and a need of that node, are a chain
  pub leads_further : (n : ℕ) (a b c : K) → leads net n a (b ∷ []) ≡ true → net.needs b c ≡ true → leads net (suc n) a (c ∷ []) ≡ true
  leads_further zero a b c h need = no_chain_of_none net a (b ∷ []) h
  leads_further (suc n) a b c h need = ⊎_elim
      (λ once. ⊎_elim
      (λ first. leads_longer (suc n) a b (c ∷ []) first (leads_at_once net n b (c ∷ []) (or_left (net.needs b c) false need)))
      (λ never. absurd (false≢true never))
      (or_cases (net.needs a b) false once))
      (λ on. leads_longer (suc n) a on.0 (c ∷ []) on.2 (leads_further n on.0 b c on.3 need))
      (leads_first net n a (b ∷ []) h)
