-- The values of a network unfold, nothing else does, and enough rounds give them.
use Rattle.std.proofs.Common.{◌≡◌, ℕ, zero, suc, ◌<◌, ◌≤◌, ◌⊎◌, Bool, true, false, not, List, [], ◌∷◌, length, sym, refl, ap, ◌∙◌, subst, inl, inr, ⊎_elim, arith}
use Rattle.std.specs.Prelude.{⊤}
use Rattle.std.proofs.lemmas.Bool.{cases_Bool, cases_lt, false≢true, or_left, or_cases, not-true, not_from_true, not_from_false, or_parts, cond-true, cond-false}
use Rattle.value_network.specs.Network.{Network, IsNetwork, LeadsTo, at_once, after, has, round, rounds, value}
use Rattle.value_network.specs.Laws.{CoversCycles, Unfolds, IsUnique, Settles, WorksInPlace}
use Rattle.value_network.proofs.Counts.{passing, passing_rises, passing_all}
use Rattle.value_network.proofs.FollowedNeeds.{LeadsTo-join, first_need, led_inside, cycles_return}

module _ {K V : Type 0} (net : Network K V) (bad : K → Bool) where
  -- no round leaves what the nodes showed
  pub rounds-zero : (shown : K → V) → rounds net bad zero shown ≡ shown
  unfolding rounds
  rounds-zero shown = refl

  -- the last round works on what the rounds before it left
  pub rounds-suc : (n : ℕ) (shown : K → V) → rounds net bad (suc n) shown ≡ round net bad (rounds net bad n shown)
  unfolding rounds
  rounds-suc n shown = refl

  -- a bad node shows a cycle's value after a round
  pub round-bad : (shown : K → V) (a : K) → bad a ≡ true → round net bad shown a ≡ net.cycle
  round-bad shown a h = cond-true (bad a) net.cycle (net.own shown a) h

  -- a good node shows what it works out
  pub round-good : (shown : K → V) (a : K) → bad a ≡ false → round net bad shown a ≡ net.own shown a
  round-good shown a h = cond-false (bad a) net.cycle (net.own shown a) h

  -- among the nodes that following needs comes to, no n good ones lead to each other in a row from this one: fewer
  -- than n rounds settle what it reads
  unfoldable pub Settled : ℕ → K → Type 0
  Settled zero a = ⊥
  Settled (suc n) a = (bad a ≡ true) ⊎ ((b : K) → LeadsTo net a b → Settled n b)

  settled_longer : (n : ℕ) (a : K) → Settled n a → Settled (suc n) a
  unfolding Settled
  settled_longer zero a s = absurd s
  settled_longer (suc n) a (inl h) = inl h
  settled_longer (suc n) a (inr s) = inr λ b led. settled_longer n b (s b led)

  settled_within : (m n : ℕ) (a : K) → n ≤ m → Settled n a → Settled m a
  settled_within zero n a le s = subst (λ k. Settled k a) (omega (arith, le)) s
  settled_within (suc m) n a le s = ⊎_elim
      (λ lt. subst (λ k. Settled k a) (omega (arith, le, lt)) s)
      (λ below. settled_longer m a (settled_within m n a below s))
      (cases_lt m n)

module _ {K V : Type 0} (net : Network K V) (sound : IsNetwork net) (bad : K → Bool) where
  -- a round shows the same at a node where what following its needs comes to shows the same
  pub round_reads : (v w : K → V) (a : K) → (bad a ≡ false → (b : K) → LeadsTo net a b → v b ≡ w b) → round net bad v a ≡ round net bad w a
  round_reads v w a alike = ⊎_elim
      (λ h. round-bad net bad v a h ∙ sym (round-bad net bad w a h))
      (λ h. round-good net bad v a h ∙ sound.reads_needs a v w (alike h) ∙ sym (round-good net bad w a h))
      (cases_Bool (bad a))

  -- what unfolds on a set of nodes with all their needs is there what enough rounds give, from any start
  unfolding_is_rounds : (Inside : K → Type 0) (shown start : K → V) → ((a b : K) → Inside a → net.needs a b ≡ true → Inside b) → ((a : K) → Inside a → shown a ≡ round net bad shown a) → (n : ℕ) (a : K) → Settled net bad n a → Inside a → shown a ≡ rounds net bad n start a
  unfolding Settled
  unfolding_is_rounds Inside shown start closed unfolds zero a s inside = absurd s
  unfolding_is_rounds Inside shown start closed unfolds (suc n) a (inl h) inside = unfolds a inside ∙ round-bad net bad shown a h ∙ sym (round-bad net bad (rounds net bad n start) a h) ∙ sym (ap (λ f. f a) (rounds-suc net bad n start))
  unfolding_is_rounds Inside shown start closed unfolds (suc n) a (inr s) inside = unfolds a inside ∙ round_reads shown (rounds net bad n start) a (λ _ b led. unfolding_is_rounds Inside shown start closed unfolds n b (s b led) (led_inside net Inside closed inside led)) ∙ sym (ap (λ f. f a) (rounds-suc net bad n start))

  -- where enough rounds have gone by, the start does not matter
  start_is_lost : (v w : K → V) (n : ℕ) (a : K) → Settled net bad n a → rounds net bad n v a ≡ rounds net bad n w a
  unfolding Settled
  start_is_lost v w zero a s = absurd s
  start_is_lost v w (suc n) a (inl h) = ap (λ f. f a) (rounds-suc net bad n v) ∙ round-bad net bad (rounds net bad n v) a h ∙ sym (round-bad net bad (rounds net bad n w) a h) ∙ sym (ap (λ f. f a) (rounds-suc net bad n w))
  start_is_lost v w (suc n) a (inr s) = ap (λ f. f a) (rounds-suc net bad n v) ∙ round_reads (rounds net bad n v) (rounds net bad n w) a (λ _ b led. start_is_lost v w n b (s b led)) ∙ sym (ap (λ f. f a) (rounds-suc net bad n w))

  -- a round before n rounds is a round after them
  round_before_is_after : (n : ℕ) (shown : K → V) → rounds net bad n (round net bad shown) ≡ round net bad (rounds net bad n shown)
  unfolding rounds
  round_before_is_after zero shown = refl
  round_before_is_after (suc n) shown = ap (round net bad) (round_before_is_after n shown)

module _ {K V : Type 0} (net : Network K V) (sound : IsNetwork net) (bad : K → Bool) (covers : CoversCycles net bad) where
  -- the formulas that are not on a path of nodes
  abbrev unvisited : List K → ℕ
  unvisited path = passing (λ x. not (has net x path)) net.formulas

  -- a formula that is met for the first time leaves fewer
  unvisited_falls : (a : K) (path : List K) → has net a path ≡ false → has net a net.formulas ≡ true → unvisited (a ∷ path) < unvisited path
  unvisited_falls a path new formula = passing_rises (λ x. not (has net x (a ∷ path))) (λ x. not (has net x path)) (net.same a) net.formulas
      (λ x h. not_from_false (has net x path) (or_parts (net.same x a) (has net x path) (not-true (has net x (a ∷ path)) h)).1)
      (λ x same. (not_from_true (has net x (a ∷ path)) (or_left (net.same x a) (has net x path) (subst (λ y. net.same y a ≡ true) (sound.same_equal a x same) (sound.same_self a))), not_from_false (has net x path) (subst (λ y. has net y path ≡ false) (sound.same_equal a x same) new)))
      formula

  -- the nodes of the path lead where its last node does
  path_grows : (a b : K) (path : List K) → ((x : K) → has net x path ≡ true → LeadsTo net x a) → LeadsTo net a b → (x : K) → has net x (a ∷ path) ≡ true → LeadsTo net x b
  path_grows a b path above led x h = ⊎_elim
      (λ same. subst (λ y. LeadsTo net y b) (sym (sound.same_equal x a same)) led)
      (λ inside. LeadsTo-join net (above x inside) led)
      (or_cases (net.same x a) (has net x path) h)

  -- at the end of a path: a node met again is on a cycle, one without a formula needs nothing
  settled_at_end : (n : ℕ) (a : K) (path : List K) → ((x : K) → has net x path ≡ true → LeadsTo net x a) → (unvisited (a ∷ path) < unvisited path → (b : K) → LeadsTo net a b → Settled net bad n b) → Settled net bad (suc n) a
  unfolding Settled
  settled_at_end n a path above on = ⊎_elim
      (λ again. inl (covers a ((cycles_return net sound a).1 (above a again))))
      (λ new. ⊎_elim
      (λ formula. inr (on (unvisited_falls a path new formula)))
      (λ plain. inr λ b led. let need = first_need net led in absurd (false≢true (sym plain ∙ sound.needs_formula a need.0 need.1)))
      (cases_Bool (has net a net.formulas)))
      (cases_Bool (has net a path))

  -- down a path: where at most n formulas are not met yet, n + 1 rounds settle its last node
  settled_below : (n : ℕ) (a : K) (path : List K) → ((x : K) → has net x path ≡ true → LeadsTo net x a) → unvisited path ≤ n → Settled net bad (suc n) a
  settled_below zero a path above few = settled_at_end zero a path above (λ falls. absurd (omega (arith, few, falls)))
  settled_below (suc n) a path above few = settled_at_end (suc n) a path above
      (λ falls b led. settled_below n b (a ∷ path) (path_grows a b path above led) (omega (arith, few, falls)))

  -- one round more than there are formulas settles every node
  pub settled : (a : K) → Settled net bad (suc (length net.formulas)) a
  settled a = settled_below (length net.formulas) a [] (λ x h. absurd (false≢true h)) (omega (arith, none))
    where
      none : unvisited [] ≡ length net.formulas
      none = passing_all net.formulas

  -- a good node shows what it works out from what the others show, a bad one a cycle's value
  pub unfolds : Unfolds net bad
  unfolds a = start_is_lost net sound bad (λ _. net.cycle) (round net bad (λ _. net.cycle)) (suc (length net.formulas)) a (settled a)
      ∙ ap (λ f. f a) (round_before_is_after net sound bad (suc (length net.formulas)) (λ _. net.cycle))

  -- what unfolds on a set of nodes with all their needs shows the values there
  pub unique_on : (Inside : K → Type 0) (shown : K → V) → ((a b : K) → Inside a → net.needs a b ≡ true → Inside b) → ((a : K) → Inside a → shown a ≡ round net bad shown a) → (a : K) → Inside a → shown a ≡ value net bad a
  unique_on Inside shown closed unfold_there a inside = unfolding_is_rounds net sound bad Inside shown (λ _. net.cycle) closed unfold_there (suc (length net.formulas)) a (settled a) inside

  -- the same of a set that a test decides
  pub unique : IsUnique net bad
  unique inside shown closed unfold_there a h = unique_on (λ x. inside x ≡ true) shown closed unfold_there a h

  -- what unfolds everywhere shows the values
  pub unique_everywhere : (shown : K → V) → ((a : K) → shown a ≡ round net bad shown a) → (a : K) → shown a ≡ value net bad a
  unique_everywhere shown unfold_there a = unique_on (λ _. ⊤) shown (λ _ _ _ _. tt) (λ x _. unfold_there x) a tt

  -- more rounds than there are formulas give the values, from any start
  pub settles : Settles net bad
  settles n shown a more = sym (unfolding_is_rounds net sound bad (λ _. ⊤) (value net bad) shown (λ _ _ _ _. tt) (λ x _. unfolds x) n a (settled_within net bad n (suc (length net.formulas)) a more (settled a)) tt)

  -- a bad node shows a cycle's value
  pub value-bad : (a : K) → bad a ≡ true → value net bad a ≡ net.cycle
  value-bad a h = unfolds a ∙ round-bad net bad (value net bad) a h

  -- a good node shows what it works out from the values
  pub value-good : (a : K) → bad a ≡ false → value net bad a ≡ net.own (value net bad) a
  value-good a h = unfolds a ∙ round-good net bad (value net bad) a h

  -- a good node works out its own value where the nodes that following its needs comes to already show theirs
  pub works_in_place : WorksInPlace net bad
  works_in_place a shown good ready = sound.reads_needs a shown (value net bad) ready ∙ sym (value-good a good)

  -- so it does where all that it needs is in a set that has with each of its nodes all that this one needs, and whose
  -- nodes already show their values
  pub works_after : (Done : K → Type 0) (shown : K → V) → ((a b : K) → Done a → net.needs a b ≡ true → Done b) → ((a : K) → Done a → shown a ≡ value net bad a)
      → (a : K) → bad a ≡ false → ((b : K) → net.needs a b ≡ true → Done b) → net.own shown a ≡ value net bad a
  works_after Done shown closed ready a good needed =
      works_in_place a shown good (λ b led. ready b (led_done led))
    where
      led_done : {b : K} → LeadsTo net a b → Done b
      led_done (at_once {b = b} need) = needed b need
      led_done (after {b = b} need rest) = led_inside net Done closed (needed b need) rest
