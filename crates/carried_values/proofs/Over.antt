-- Values go over with nodes that need the same and work out the same. Serves the laws.
use Rattle.std.proofs.Common.{◌≡◌, ◌∙◌, sym, ap, refl, subst, ◌⊎◌, inl, inr, true, false, Option, Some, None, ⊎_elim}
use Rattle.std.proofs.lemmas.Bool.{cases_Bool, false≢true}
use Rattle.std.proofs.lemmas.Option.{same_Some}
use Rattle.value_network.specs.Network.{IsNetwork, LeadsTo, Network, after, at_once, cyclic, round, value}
use Rattle.value_network.proofs.FollowedNeeds.{cycles_return, first_need, led_inside}
use Rattle.value_network.proofs.ListTests.{equal_from_both}
use Rattle.value_network.proofs.Stuck.{cyclic_covers}
use Rattle.value_network.proofs.Values.{round-bad, round-good, unique_on, value-bad, value-good}
use Rattle.carried_values.specs.Laws.{CyclesGoOver, ValuesGoOver}
use Rattle.carried_values.specs.Over.{GoesOver, Idle, shown_from, values_carried}

some_or_none : {A : Type 0} (o : Option A) → (o ≡ None) ⊎ ((x : A) × (o ≡ Some x))
some_or_none None = inl refl
some_or_none (Some x) = inr (x, refl)

-- nothing follows from a node that needs nothing
idle_ends : {K V : Type 0} (net : Network K V) {a b : K} → Idle net a → LeadsTo net a b → ⊥
idle_ends net idle led = let w = first_need net led in false≢true (sym (idle w.0) ∙ w.1)

module _ {K L V : Type 0} (one : Network K V) (two : Network L V) (back : L → Option K) (given : L → V) (Inside : L → Type 0) (sound : IsNetwork one) (sound_two : IsNetwork two) (over : GoesOver one two back given Inside) where
  -- a chain of needs came from a chain
  chain_back : {a b : L} (c : K) → LeadsTo two a b → Inside a → back a ≡ Some c → Idle two b ⊎ ((d : K) × (back b ≡ Some d) × LeadsTo one c d)
  chain_back c (at_once {a = a} {b = b} need) i e =
      ⊎_elim (λ idle. inl idle) (λ w. inr (w.0, w.1, at_once w.2)) (over.there a b c i e need)
  chain_back c (after {a = a} {b = m} need rest) i e =
      ⊎_elim
      (λ idle. absurd (idle_ends two idle rest))
      (λ w. ⊎_elim (λ idle. inl idle) (λ v. inr (v.0, v.1, after w.2 v.2)) (chain_back w.0 rest (over.closed a m i need) w.1))
      (over.there a m c i e need)

  -- and a chain goes on as one
  chain_forth : {c d : K} (a : L) → LeadsTo one c d → Inside a → back a ≡ Some c → Idle one d ⊎ ((b : L) × (back b ≡ Some d) × LeadsTo two a b)
  chain_forth a (at_once {a = c} {b = d} need) i e =
      ⊎_elim (λ idle. inl idle) (λ w. inr (w.0, w.1, at_once w.2)) (over.forth a c d i e need)
  chain_forth a (after {a = c} {b = m} need rest) i e =
      ⊎_elim
      (λ idle. absurd (idle_ends one idle rest))
      (λ w. ⊎_elim (λ idle. inl idle) (λ v. inr (v.0, v.1, after w.2 v.2)) (chain_forth w.0 rest (over.closed a w.0 i w.2) w.1))
      (over.forth a c m i e need)

  cycle_came : (a : L) (c : K) → Inside a → back a ≡ Some c → LeadsTo two a a → LeadsTo one c c
  cycle_came a c i e led =
      ⊎_elim
      (λ idle. absurd (idle_ends two idle led))
      (λ w. subst (λ d. LeadsTo one c d) (same_Some _ _ (sym w.1 ∙ e)) w.2)
      (chain_back c led i e)

  cycle_goes : (a : L) (c : K) → Inside a → back a ≡ Some c → LeadsTo one c c → LeadsTo two a a
  cycle_goes a c i e led =
      ⊎_elim
      (λ idle. absurd (idle_ends one idle led))
      (λ w. subst (λ b. LeadsTo two a b) (sym (over.apart a w.0 c i (led_inside two Inside over.closed i w.2) e w.1)) w.2)
      (chain_forth a led i e)

  pub cyclic_same : (a : L) (c : K) → Inside a → back a ≡ Some c → cyclic two a ≡ cyclic one c
  cyclic_same a c i e = equal_from_both (cyclic two a) (cyclic one c)
      (λ h. (cycles_return one sound c).1 (cycle_came a c i e ((cycles_return two sound_two a).0 h)))
      (λ h. (cycles_return two sound_two a).1 (cycle_goes a c i e ((cycles_return one sound c).0 h)))

  idle_free : (a : L) → Idle two a → cyclic two a ≡ false
  idle_free a idle = ⊎_elim
      (λ (h : cyclic two a ≡ true). absurd (idle_ends two idle ((cycles_return two sound_two a).0 h)))
      (λ (h : cyclic two a ≡ false). h)
      (cases_Bool (cyclic two a))

  abbrev shown : L → V
  shown = values_carried one back given

  -- what is carried over unfolds
  unfolds_there : (a : L) → Inside a → shown a ≡ round two (cyclic two) shown a
  unfolds_there a i = ⊎_elim
      (λ e.
      let bare = over.bare a i e in
      ap (shown_from (given a) (value one (cyclic one))) e ∙ sym bare.1 ∙ sym (round-good two (cyclic two) shown a (idle_free a bare.0)))
      (λ w.
      let same = cyclic_same a w.0 i w.1 in
      ap (shown_from (given a) (value one (cyclic one))) w.1
      ∙ ⊎_elim
      (λ (h : cyclic one w.0 ≡ true). value-bad one sound (cyclic one) (cyclic_covers one) w.0 h ∙ over.cycle ∙ sym (round-bad two (cyclic two) shown a (same ∙ h)))
      (λ (h : cyclic one w.0 ≡ false). value-good one sound (cyclic one) (cyclic_covers one) w.0 h ∙ sym (over.own a w.0 i w.1 h) ∙ sym (round-good two (cyclic two) shown a (same ∙ h)))
      (cases_Bool (cyclic one w.0)))
      (some_or_none (back a))

  pub go_over : (a : L) → Inside a → value two (cyclic two) a ≡ shown a
  go_over a i = sym (unique_on two sound_two (cyclic two) (cyclic_covers two) Inside shown over.closed unfolds_there a i)

pub values_go_over : {K L V : Type 0} → ValuesGoOver K L V
values_go_over one two back given inside sound sound_two over a i = go_over one two back given (λ x. inside x ≡ true) sound sound_two over a i

pub cycles_go_over : {K L V : Type 0} → CyclesGoOver K L V
cycles_go_over one two back given inside sound sound_two over a c i e = cyclic_same one two back given (λ x. inside x ≡ true) sound sound_two over a c i e
