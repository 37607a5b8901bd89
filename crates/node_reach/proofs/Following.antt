-- What is explored is what is reached, and the places lead where the nodes lead. Serves reach and order.
use Rattle.std.proofs.Common.{◌≡◌, ◌∙◌, sym, ap, refl, subst, arith, ℕ, ◌<◌, ◌-◌, ◌==◌, ◌⊎◌, ⊎_elim, Bool, true, List, [], length, get_or, reverse}
use Rattle.std.proofs.lemmas.Bool.{cases_order}
use Rattle.std.specs.Prelude.{◌↔◌}
use Rattle.std.proofs.lemmas.List.{get_or-reverse, get_or_default, length-reverse}
use Rattle.std.proofs.lemmas.List.Sorted.{IsPermutation-reverse, list_any-IsPermutation}
use Rattle.needs_order.specs.Needs.{has, AreNodes, Needs}
use Rattle.needs_order.specs.Needs as needs
use Rattle.needs_order.specs.Needs.LeadsTo.{at_once as needed_once, after as needed_after}
use Rattle.needs_order.proofs.Lists.{has_at, at_has}
use Rattle.node_reach.specs.Arrows.{AreReached, IsReached, LeadsTo}
use Rattle.node_reach.specs.Arrows.LeadsTo.{at_once, after}
use Rattle.node_reach.specs.internal.Explored.{AreAt, IsExplored}
use Rattle.node_reach.proofs.Putting.{has_all_at}

module _ (count : ℕ) (targets : ℕ → List ℕ) (starts found : List ℕ) (lists : List (List ℕ)) (e : IsExplored count targets starts found lists) where
  -- the node at a place
  node : ℕ → ℕ
  node i = get_or found i 0

  at : (i : ℕ) → i < length found → AreAt found (targets (get_or found i 0)) (get_or lists i [])
  at i inside = e.under_way.lists_at i (omega (arith, inside, e.all))

  -- the target of a found node is found
  target_found : (a b : ℕ) → has a found ≡ true → has b (targets a) ≡ true → has b found ≡ true
  target_found a b h next =
      let (i, inside, is) = at_has a found h in
      (has_all_at found (targets (get_or found i 0)) (get_or lists i []) b (at i inside) (subst (λ k. has b (targets k) ≡ true) (sym is) next)).3

  led_found : {a b : ℕ} → LeadsTo targets a b → has a found ≡ true → has b found ≡ true
  led_found (at_once next) h = target_found _ _ h next
  led_found (after next rest) h = led_found rest (target_found _ _ h next)

  -- exactly what is reached is found
  pub all_reached : AreReached targets starts found
  all_reached = (
    (λ b. (
      λ h. e.under_way.only b h,
      λ reached. ⊎_elim
          (λ (first : has b starts ≡ true). e.under_way.starts_in b first)
          (λ (led : (a : ℕ) × (has a starts ≡ true) × LeadsTo targets a b). led_found led.2 (e.under_way.starts_in led.0 led.1))
          reached,
    )),
    e.once,
  )

  -- one node has one place
  pub one_place : (i j : ℕ) → i < length found → j < length found → get_or found i 0 ≡ get_or found j 0 → i ≡ j
  one_place i j i_in j_in same = ⊎_elim
      (λ (is : i ≡ j). is)
      (λ (apart : (i < j) ⊎ (j < i)). ⊎_elim (λ (before : i < j). absurd (e.once i j 0 before j_in same)) (λ (behind : j < i). absurd (e.once j i 0 behind i_in (sym same))) apart)
      (cases_order i j)

  -- all places in the lists are places of found nodes
  pub are_nodes : AreNodes lists
  are_nodes i d i_in j f j_in =
      let inside : i < length found = omega (arith, i_in, e.all) in
      let same : get_or lists i d ≡ get_or lists i [] = get_or_default lists i d [] i_in in
      let there : j < length (get_or lists i []) = subst (λ l. j < length l) same j_in in
      let low : get_or (get_or lists i []) j 0 < length found = (at i inside).inside j there in
      let value : get_or (get_or lists i d) j f ≡ get_or (get_or lists i []) j 0 = ap (λ l. get_or l j f) same ∙ get_or_default (get_or lists i []) j f 0 there in
      subst (λ n. n < length lists) (sym value) (omega (arith, low, e.all))

  -- one place needs another where an arrow leads from its node to the other's
  need_arrow : (i j : ℕ) → i < length found → Needs lists i j → (has (get_or found j 0) (targets (get_or found i 0)) ≡ true) × (j < length found)
  need_arrow i j inside need =
      let (m, m_in, is) = at_has j (get_or lists i []) need in
      let here = at i inside in
      let stands : get_or found j 0 ≡ get_or (targets (get_or found i 0)) m 0 = ap (λ p. get_or found p 0) (sym is) ∙ here.stand m m_in in (
        subst (λ k. has k (targets (get_or found i 0)) ≡ true) (sym stands) (has_at (targets (get_or found i 0)) m (omega (arith, m_in, here.count))),
        subst (λ p. p < length found) is (here.inside m m_in),
      )

  arrow_need : (i : ℕ) (b : ℕ) → i < length found → has b (targets (get_or found i 0)) ≡ true → (j : ℕ) × (j < length found) × (get_or found j 0 ≡ b) × Needs lists i j
  arrow_need i b inside next =
      let (m, m_in, stands, found_b) = has_all_at found (targets (get_or found i 0)) (get_or lists i []) b (at i inside) next in
      (get_or (get_or lists i []) m 0, (at i inside).inside m m_in, stands, has_at (get_or lists i []) m m_in)

  -- places lead where their nodes do
  pub nodes_lead : {i j : ℕ} → i < length found → needs.LeadsTo lists i j → LeadsTo targets (get_or found i 0) (get_or found j 0)
  nodes_lead inside (needed_once need) = at_once (need_arrow _ _ inside need).0
  nodes_lead inside (needed_after need rest) = let arrow = need_arrow _ _ inside need in after arrow.0 (nodes_lead arrow.1 rest)

  pub places_lead : (i : ℕ) {a b : ℕ} → i < length found → get_or found i 0 ≡ a → LeadsTo targets a b → (j : ℕ) × (j < length found) × (get_or found j 0 ≡ b) × needs.LeadsTo lists i j
  places_lead i {b = b} inside is (at_once next) =
      let (j, j_in, stands, need) = arrow_need i b inside (subst (λ k. has b (targets k) ≡ true) (sym is) next) in
      (j, j_in, stands, needed_once need)
  places_lead i inside is (after {b = c} next rest) =
      let (k, k_in, stands, need) = arrow_need i c inside (subst (λ n. has c (targets n) ≡ true) (sym is) next) in
      let (j, j_in, ends, led) = places_lead k k_in stands rest in
      (j, j_in, ends, needed_after need led)

  pub places_lead_to : (i j : ℕ) → i < length found → j < length found → LeadsTo targets (get_or found i 0) (get_or found j 0) → needs.LeadsTo lists i j
  places_lead_to i j i_in j_in led =
      let (k, k_in, stands, there) = places_lead i i_in refl led in
      subst (λ n. needs.LeadsTo lists i n) (one_place k j k_in j_in stands) there

-- and so from the last one to the first
pub all_reversed : (targets : ℕ → List ℕ) (starts nodes : List ℕ) → AreReached targets starts nodes → AreReached targets starts (reverse nodes)
all_reversed targets starts nodes (which, once) = (
  (λ b. subst (λ (t : Bool). (t ≡ true) ↔ IsReached targets starts b) (list_any-IsPermutation (λ k. k == b) nodes (reverse nodes) (IsPermutation-reverse nodes)) (which b)),
  (λ i j d below inside.
      let within : j < length nodes = subst (λ n. j < n) (length-reverse nodes) inside in
      let first : i < length nodes = omega (arith, below, within) in
      λ same. once (length nodes - 1 - j) (length nodes - 1 - i) d (omega (arith, below, within)) (omega (arith, below, within)) (sym (get_or-reverse nodes j d within) ∙ sym same ∙ get_or-reverse nodes i d first)),
)
