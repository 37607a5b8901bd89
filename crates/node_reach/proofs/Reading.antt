-- An order of places, read as an order of the nodes that stand at them. Serves the order of nodes.
use Rattle.std.proofs.Common.{◌≡◌, ◌∙◌, sym, ap, refl, subst, arith, ℕ, ◌+◌, ◌<◌, ◌≤◌, Bool, true, false, List, [], ◌∷◌, ◌++◌, length, map, get_or, take}
use Rattle.std.proofs.lemmas.List.{get_or-map, get_or_read, length-map, map-append, take_all, take_more}
use Rattle.std.specs.declared.alloc.Global.{Global}
use Rattle.std.specs.declared.vec.Vec.{Vec}
use Rattle.needs_order.specs.Needs.{has, lists_of, IsEachOnce}
use Rattle.needs_order.specs.Needs as needs
use Rattle.needs_order.proofs.Lists.{has_at, at_has, has_first, has-append_right}
use Rattle.node_reach.specs.Arrows.{AreReached, CyclesAre, InOrder, LeadsTo}
use Rattle.node_reach.specs.internal.Explored.{IsExplored}
use Rattle.node_reach.proofs.Following.{all_reached, one_place, nodes_lead, places_lead, places_lead_to}

-- a list that is read at places has what stands at one of them
has_read : (f : ℕ → ℕ) (p : ℕ) (ps : List ℕ) → has p ps ≡ true → has (f p) (map f ps) ≡ true
has_read f p ps h =
    let (i, inside, is) = at_has p ps h in
    let count = length-map ps f in
    subst (λ k. has k (map f ps) ≡ true) (get_or-map f ps i 0 0 inside ∙ ap f is) (has_at (map f ps) i (omega (arith, inside, count)))

read_has : (f : ℕ → ℕ) (a : ℕ) (ps : List ℕ) → has a (map f ps) ≡ true → (p : ℕ) × (has p ps ≡ true) × (f p ≡ a)
read_has f a ps h =
    let (i, inside, is) = at_has a (map f ps) h in
    let count = length-map ps f in
    let there : i < length ps = omega (arith, inside, count) in
    (get_or ps i 0, has_at ps i there, sym (get_or-map f ps i 0 0 there) ∙ is)

-- where one of what was read was read
split_read : (f : ℕ → ℕ) (ps front back : List ℕ) (a : ℕ) → map f ps ≡ front ++ a ∷ back → (before : List ℕ) × (p : ℕ) × (behind : List ℕ) × (ps ≡ before ++ p ∷ behind) × (map f before ≡ front) × (f p ≡ a)
split_read f [] [] back a is = absurd (cc)
split_read f [] (b ∷ front) back a is = absurd (cc)
split_read f (p ∷ ps) [] back a is = let first : f p ≡ a = cc in ([], p, ps, refl, refl, first)
split_read f (p ∷ ps) (b ∷ front) back a is =
    let first : f p ≡ b = cc in
    let rest : map f ps ≡ front ++ a ∷ back = cc in
    let (before, q, behind, parts, read, at) = split_read f ps front back a rest in
    (p ∷ before, q, behind, ap (λ l. p ∷ l) parts, (λ i. first i ∷ read i), at)

module _ (count : ℕ) (targets : ℕ → List ℕ) (starts found : List ℕ) (lists : List (List ℕ)) (e : IsExplored count targets starts found lists) (order : List ℕ) (each : IsEachOnce (length found) order) where
  read : List ℕ
  read = map (λ p. get_or found p 0) order

  below : (p : ℕ) → has p order ≡ true → p < length found
  below p h = let (i, inside, is) = at_has p order h in subst (λ q. q < length found) is (each.1 i 0 inside)

  pub order_reached : AreReached targets starts (map (λ p. get_or found p 0) order)
  order_reached =
      let reached = all_reached count targets starts found lists e in (
        (λ b. (
          λ h. let (p, there, is) = read_has (λ p. get_or found p 0) b order h in (reached.0 b).0 (subst (λ k. has k found ≡ true) is (has_at found p (below p there))),
          λ led. let (i, inside, is) = at_has b found ((reached.0 b).1 led) in subst (λ k. has k (map (λ p. get_or found p 0) order) ≡ true) is (has_read (λ p. get_or found p 0) i order (each.0 i inside)),
        )),
        λ i j d before inside same.
            let counted = length-map order (λ p. get_or found p 0) in
            let j_in : j < length order = omega (arith, inside, counted) in
            let i_in : i < length order = omega (arith, before, j_in) in
            let one : get_or order i 0 ≡ get_or order j 0 = one_place count targets starts found lists e (get_or order i 0) (get_or order j 0) (each.1 i 0 i_in) (each.1 j 0 j_in)
            (sym (get_or-map (λ p. get_or found p 0) order i 0 d i_in) ∙ same ∙ get_or-map (λ p. get_or found p 0) order j 0 d j_in) in
            each.2 i j 0 before j_in one,
      )

  pub order_cycles : (flags : List Bool) → needs.CyclesAre lists flags → CyclesAre targets (map (λ p. get_or found p 0) order) (map (λ p. get_or flags p false) order)
  order_cycles flags cycles i inside =
      let counted = length-map order (λ p. get_or found p 0) in
      let i_in : i < length order = omega (arith, inside, counted) in
      let p = get_or order i 0 in
      let p_in : p < length found = each.1 i 0 i_in in
      let flag : get_or (map (λ p. get_or flags p false) order) i false ≡ get_or flags p false = get_or-map (λ p. get_or flags p false) order i 0 false i_in in
      let node : get_or (map (λ p. get_or found p 0) order) i 0 ≡ get_or found p 0 = get_or-map (λ p. get_or found p 0) order i 0 0 i_in in (
        λ on. subst (λ k. LeadsTo targets k k) (sym node) (nodes_lead count targets starts found lists e p_in ((cycles p).0 (sym flag ∙ on))),
        λ back. flag ∙ (cycles p).1 (places_lead_to count targets starts found lists e p p p_in p_in (subst (λ k. LeadsTo targets k k) node back)),
      )

  pub order_in_order : needs.InOrder lists order → InOrder targets (map (λ p. get_or found p 0) order)
  order_in_order in_order front back a b is led apart =
      let (before, p, behind, parts, read_front, at_p) = split_read (λ p. get_or found p 0) order front back a is in
      let p_in : p < length found = below p (subst (λ l. has p l ≡ true) (sym parts) (has_behind before p behind)) in
      let (q, q_in, at_q, there) = places_lead count targets starts found lists e p p_in at_p led in
      let back_again : needs.LeadsTo lists q p → ⊥ = λ returns. apart (subst (λ k. LeadsTo targets k a) at_q (subst (λ k. LeadsTo targets (get_or found q 0) k) at_p (nodes_lead count targets starts found lists e q_in returns))) in
      subst (λ l. has b l ≡ true) read_front (subst (λ k. has k (map (λ p. get_or found p 0) before) ≡ true) at_q (has_read (λ p. get_or found p 0) q before (in_order before behind p q parts there back_again)))
    where
      has_behind : (before : List ℕ) (p : ℕ) (behind : List ℕ) → has p (before ++ p ∷ behind) ≡ true
      has_behind before p behind = has-append_right p before (p ∷ behind) (has_first p behind)

-- what was read of an order of the places is a walk
pub all_read : (count : ℕ) (targets : ℕ → List ℕ) (starts found : List ℕ) (kept lent : List (Vec ℕ Global)) (order : List ℕ) (flags : List Bool) (nodes : List ℕ) (on_cycle : List Bool)
    → IsExplored count targets starts found (lists_of kept) → lent ≡ kept
    → IsEachOnce (length lent) order → needs.CyclesAre (lists_of lent) flags → needs.InOrder (lists_of lent) order
    → nodes ≡ map (λ p. get_or found p 0) order → on_cycle ≡ map (λ p. get_or flags p false) order
    → AreReached targets starts nodes × (length on_cycle ≡ length nodes) × CyclesAre targets nodes on_cycle × InOrder targets nodes
all_read count targets starts found kept lent order flags nodes on_cycle e lending each cycles in_order nodes_are flags_are =
    let counted : length lent ≡ length found = ap length lending ∙ (sym (length-map kept (λ list. list.items)) ∙ e.all) in
    let each_found : IsEachOnce (length found) order = subst (λ n. IsEachOnce n order) counted each in
    let on : needs.CyclesAre (lists_of kept) flags = subst (λ l. needs.CyclesAre (lists_of l) flags) lending cycles in
    let ordered : needs.InOrder (lists_of kept) order = subst (λ l. needs.InOrder (lists_of l) order) lending in_order in (
      subst (λ l. AreReached targets starts l) (sym nodes_are) (order_reached count targets starts found (lists_of kept) e order each_found),
      ap length flags_are ∙ (length-map order (λ p. get_or flags p false) ∙ (sym (length-map order (λ p. get_or found p 0)) ∙ ap length (sym nodes_are))),
      subst (λ l. CyclesAre targets nodes l) (sym flags_are) (subst (λ l. CyclesAre targets l (map (λ p. get_or flags p false) order)) (sym nodes_are) (order_cycles count targets starts found (lists_of kept) e order each_found flags on)),
      subst (λ l. InOrder targets l) (sym nodes_are) (order_in_order count targets starts found (lists_of kept) e order each_found ordered),
    )

-- one place more is read
module _ {X : Type 0} (list : List X) (places : List ℕ) where
  pub read_more : (i : ℕ) (found more : List X) (x : X) → ((d : X) → found ≡ map (λ p. get_or list p d) (take i places)) → i < length places → get_or places i 0 < length list → x ≡ get_or list (get_or places i 0) x → more ≡ found ++ x ∷ []
      → (d : X) → more ≡ map (λ p. get_or list p d) (take (i + 1) places)
  read_more i found more x before inside there is grown d =
      grown ∙ (ap (λ l. l ++ x ∷ []) (before d) ∙ (ap (λ y. map (λ p. get_or list p d) (take i places) ++ y ∷ []) (get_or_read list (get_or places i 0) x there is d)
      ∙ (sym (map-append (λ p. get_or list p d) (take i places) (get_or places i 0 ∷ [])) ∙ ap (map (λ p. get_or list p d)) (sym (take_more places i 0 inside)))))

  pub read_whole : (i : ℕ) (found : List X) → ((d : X) → found ≡ map (λ p. get_or list p d) (take i places)) → length places ≤ i → (d : X) → found ≡ map (λ p. get_or list p d) places
  read_whole i found before past d = before d ∙ ap (map (λ p. get_or list p d)) (take_all i places past)
