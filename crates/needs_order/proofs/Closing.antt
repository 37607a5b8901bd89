-- A visit ends whose needs lead back to no place below its own: the nodes of its stretch are closed. Serves the search.
use Rattle.std.proofs.Common.{◌≡◌, ◌≢◌, ◌∙◌, sym, ap, refl, arith, ℕ, ◌+◌, ◌<◌, ◌≤◌, ◌⊎◌, inl, inr, ⊎_elim, Bool, true, false, List, ◌∷◌, ◌++◌, length, take, drop, get_or, subst}
use Rattle.std.specs.Prelude.{◌↔◌}
use Rattle.std.specs.List.{AllPairs}
use Rattle.std.proofs.lemmas.Bool.{cases_lt, false≢true}
use Rattle.std.proofs.lemmas.List.{get_or-take, get_or-drop, get_or_default, length-take-le, length-drop}
use Rattle.needs_order.specs.declared.search.Mark.{Mark}
use Rattle.needs_order.specs.declared.search.Mark.TheVariants.{Unseen, Open, Closed}
use Rattle.needs_order.specs.declared.search.Visit.{Visit}
use Rattle.needs_order.specs.Needs.{has, Needs, LeadsTo, InOrder}
use Rattle.needs_order.specs.Needs.LeadsTo.{at_once, after}
use Rattle.needs_order.specs.internal.Search.{needs_of, mark_at, with_each, AreClosed, AreMarks, IsPath, IsSettled, IsStretch, AreStretches}
use Rattle.needs_order.proofs.Lists.{has-append_left, has-append_right, has-append_cases, has_or_not, has_first, has_drop, drop_has, split_append, once-append, length-with_each, with_each_other, with_each_same}
use Rattle.needs_order.proofs.Leads.{leads_on, closed_leads}
use Rattle.needs_order.proofs.Marks.{met_inside}
use Rattle.needs_order.proofs.Stretches.{stretches_stay}
use Rattle.needs_order.proofs.Merging.{all_settled}

-- closing nodes of the path from a place on
module _ (lists : List (List ℕ)) (marks : List Mark) (path order : List ℕ) (place : ℕ) (are : AreMarks lists marks path order) (within : place ≤ length path) where
  -- the nodes from the place on aren't in the order yet
  pub fresh : (a : ℕ) → has a order ≡ true → has a (drop place path) ≡ true → ⊥
  fresh a old now =
      let (i, from, inside, is) = drop_has a place path now in
      let e : Closed ≡ Open i = sym (are.placed a old) ∙ ap (mark_at marks) (sym is) ∙ are.stands i inside in
      cc

  pub distinct : AllPairs (λ a b. a ≢ b) (drop place path)
  distinct i j d before inside same =
      let count = length-drop place path in
      let at : (k : ℕ) → k < length (drop place path) → get_or (drop place path) k d ≡ get_or path (place + k) 0
      = λ k below. get_or-drop place path k d ∙ get_or_default path (place + k) d 0 (omega (arith, count, below)) in
      let first : place + i < length path = omega (arith, count, before, inside) in
      let second : place + j < length path = omega (arith, count, before, inside) in
      let e : Open (place + i) ≡ Open (place + j) = sym (are.stands (place + i) first) ∙ ap (mark_at marks) (sym (at i (omega (arith, before, inside))) ∙ same ∙ at j inside) ∙ are.stands (place + j) second in
      let equal : place + i ≡ place + j = cc in
      omega (arith, equal, before)

  now_closed : (a : ℕ) → has a (drop place path) ≡ true → mark_at (with_each marks (drop place path) Closed) a ≡ Closed
  now_closed a h =
      let (i, from, inside, is) = drop_has a place path h in
      with_each_same marks (drop place path) Closed a Unseen h (met_inside marks a λ new. let e : Unseen ≡ Open i = sym new ∙ ap (mark_at marks) (sym is) ∙ are.stands i inside in cc)

  others_stay : (a : ℕ) → has a (drop place path) ≡ false → mark_at (with_each marks (drop place path) Closed) a ≡ mark_at marks a
  others_stay a out = with_each_other marks (drop place path) Closed a Unseen out

  pub stay_settled : (low b : ℕ) → IsSettled low (mark_at marks b) → IsSettled low (mark_at (with_each marks (drop place path) Closed) b)
  stay_settled low b h = ⊎_elim
      (λ now. subst (λ m. IsSettled low m) (sym (now_closed b now)) tt)
      (λ out. subst (λ m. IsSettled low m) (sym (others_stay b out)) h)
      (has_or_not b (drop place path))

  -- what was met stays so
  pub stay_met : (a : ℕ) → mark_at (with_each marks (drop place path) Closed) a ≡ Unseen → mark_at marks a ≡ Unseen
  stay_met a new = ⊎_elim
      (λ now. let e : Closed ≡ Unseen = sym (now_closed a now) ∙ new in absurd (cc))
      (λ out. sym (others_stay a out) ∙ new)
      (has_or_not a (drop place path))

  pub closed_marks : AreMarks lists (with_each marks (drop place path) Closed) (take place path) (order ++ drop place path)
  closed_marks = record {
    count = length-with_each marks (drop place path) Closed ∙ are.count;
    stands = λ i below. let before : i < place = omega (arith, below, count) in stands i before;
    open_at = λ a i is. ⊎_elim
        (λ now. let e : Closed ≡ Open i = sym (now_closed a now) ∙ is in absurd (cc))
        (λ out. open_at a i out (are.open_at a i (sym (others_stay a out) ∙ is)))
        (has_or_not a (drop place path));
    closed = λ a is. ⊎_elim
        (λ now. has-append_right a order (drop place path) now)
        (λ out. has-append_left a order (drop place path) (are.closed a (sym (others_stay a out) ∙ is)))
        (has_or_not a (drop place path));
    placed = λ a h. ⊎_elim
        (λ now. now_closed a now)
        (λ out. others_stay a out ∙ are.placed a (⊎_elim (λ old. old) (λ now. absurd (false≢true (sym out ∙ now))) (has-append_cases a order (drop place path) h)))
        (has_or_not a (drop place path));
  }
    where
      count : length (take place path) ≡ place
      count = length-take-le place path within

      stands : (i : ℕ) → i < place → mark_at (with_each marks (drop place path) Closed) (get_or (take place path) i 0) ≡ Open i
      stands i before = ap (mark_at (with_each marks (drop place path) Closed)) (get_or-take place path i 0 before) ∙ ⊎_elim
          (λ (now : has (get_or path i 0) (drop place path) ≡ true).
          let (j, from, inside, is) = drop_has (get_or path i 0) place path now in
          let e : Open j ≡ Open i = sym (are.stands j inside) ∙ ap (mark_at marks) is ∙ are.stands i (omega (arith, before, within)) in
          let same : j ≡ i = cc in
          absurd (omega (arith, same, from, before)))
          (λ (out : has (get_or path i 0) (drop place path) ≡ false). others_stay (get_or path i 0) out ∙ are.stands i (omega (arith, before, within)))
          (has_or_not (get_or path i 0) (drop place path))

      open_at : (a i : ℕ) → has a (drop place path) ≡ false → (i < length path) × (get_or path i 0 ≡ a) → (i < length (take place path)) × (get_or (take place path) i 0 ≡ a)
      open_at a i out old =
          let inside = old.0 in
          let before : i < place = ⊎_elim
          (λ before. before)
          (λ from. absurd (false≢true (sym out ∙ subst (λ b. has b (drop place path) ≡ true) old.1 (has_drop path place i from inside))))
          (cases_lt i place) in
          (omega (arith, before, count), get_or-take place path i 0 before ∙ old.1)

  pub closed_path : IsPath lists path → IsPath lists (take place path)
  closed_path leads i j before below =
      let count : length (take place path) ≡ place = length-take-le place path within in
      let second : j < place = omega (arith, below, count) in
      let first : i < place = omega (arith, before, second) in
      subst (λ b. LeadsTo lists (get_or (take place path) i 0) b) (sym (get_or-take place path j 0 second))
      (subst (λ a. LeadsTo lists a (get_or path j 0)) (sym (get_or-take place path i 0 first)) (leads i j before (omega (arith, second, within))))

  pub closed_stretches : (visits : List Visit) → AreStretches lists marks path place visits → AreStretches lists (with_each marks (drop place path) Closed) (take place path) (length (take place path)) visits
  closed_stretches visits old = subst (λ end. AreStretches lists (with_each marks (drop place path) Closed) (take place path) end visits) (sym (length-take-le place path within))
      (stretches_stay lists marks (with_each marks (drop place path) Closed) path (take place path) stay_settled place visits (λ i below. get_or-take place path i 0 below) old)

-- what is known to be on a cycle once the nodes from the visit's place on are closed
abbrev pub AreFlags : Visit → List ℕ → List Bool → List Bool → Type 0
AreFlags visit path old new = ((visit.low ≡ visit.place) × (new ≡ with_each old (drop visit.place path) true)) ⊎ ((visit.place < visit.low) × (new ≡ old))

-- the nodes of a stretch at the end of the path, whose needs were all gone through
module _ (lists : List (List ℕ)) (marks : List Mark) (path order : List ℕ) (on_cycle : List Bool) (visit : Visit) (are : AreMarks lists marks path order) (closed : AreClosed lists order on_cycle) (leads : IsPath lists path) (is : IsStretch lists marks path visit (length path)) (done : length (needs_of lists visit.node) ≤ visit.next) (ends : visit.place ≤ visit.low) where
  inside : visit.place < length path
  inside = is.inside

  is_fresh : (a : ℕ) → has a order ≡ true → has a (drop visit.place path) ≡ true → ⊥
  is_fresh = fresh lists marks path order visit.place are (omega (arith, inside))

  -- what they need is closed or one of them
  all_there : (a b : ℕ) → has a (order ++ drop visit.place path) ≡ true → Needs lists a b → has b (order ++ drop visit.place path) ≡ true
  all_there a b h need = ⊎_elim
      (λ old. has-append_left b order (drop visit.place path) (closed.needs a b old need))
      (λ now.
      let (i, from, below, at) = drop_has a visit.place path now in
      by_mark (mark_at marks b) refl (all_settled lists marks path visit (length path) is done i b from below (subst (λ c. Needs lists c b) (sym at) need)))
      (has-append_cases a order (drop visit.place path) h)
    where
      by_mark : (mark : Mark) → mark_at marks b ≡ mark → IsSettled visit.low mark → has b (order ++ drop visit.place path) ≡ true
      by_mark Unseen e h = absurd h
      by_mark (Open j) e h =
          let (below, at) = are.open_at b j e in
          has-append_right b order (drop visit.place path) (subst (λ c. has c (drop visit.place path) ≡ true) at (has_drop path visit.place j (omega (arith, ends, h)) below))
      by_mark Closed e h = has-append_left b order (drop visit.place path) (are.closed b e)

  -- the visited node leads to the others of them
  from_head : (i : ℕ) → visit.place < i → i < length path → LeadsTo lists visit.node (get_or path i 0)
  from_head i above below = subst (λ a. LeadsTo lists a (get_or path i 0)) is.stands (leads visit.place i above below)

  -- two of them lead to one another
  together : (i j : ℕ) → visit.place ≤ i → i < length path → visit.place ≤ j → j < length path → (i ≡ j → ⊥) → LeadsTo lists (get_or path i 0) (get_or path j 0)
  together i j from_i below_i from_j below_j other = ⊎_elim
      (λ (before : i < j). leads i j before below_j)
      (λ (back : j ≤ i).
      let above : visit.place < i = grind arith in
      ⊎_elim
      (λ (inner : visit.place < j). leads_on lists (is.returns i above below_i) (from_head j inner below_j))
      (λ (first : j ≤ visit.place). subst (λ b. LeadsTo lists (get_or path i 0) b) (sym is.stands ∙ ap (λ k. get_or path k 0) (let same : visit.place ≡ j = omega (arith, from_j, first) in same)) (is.returns i above below_i))
      (cases_lt visit.place j))
      (cases_lt i j)

  -- where needs lead back to the visited node, each of them is on a cycle
  each_on_cycle : visit.low ≡ visit.place → (i : ℕ) → visit.place ≤ i → i < length path → LeadsTo lists (get_or path i 0) (get_or path i 0)
  each_on_cycle low i from below = ⊎_elim
      (λ (above : visit.place < i). leads_on lists (is.returns i above below) (from_head i above below))
      (λ (first : i ≤ visit.place).
      let same : visit.place ≡ i = omega (arith, from, first) in
      subst (λ k. LeadsTo lists (get_or path k 0) (get_or path k 0)) same
      (subst (λ a. LeadsTo lists a (get_or path visit.place 0)) (sym is.stands)
      (subst (λ k. LeadsTo lists visit.node (get_or path k 0)) low (is.back (omega (arith, low))))))
      (cases_lt visit.place i)

  -- else it is one node, and on none
  none_on_cycle : visit.place < visit.low → (i : ℕ) → visit.place ≤ i → i < length path → LeadsTo lists (get_or path i 0) (get_or path i 0) → ⊥
  none_on_cycle low i from below leads_back = is_fresh (get_or path i 0) (old leads_back) (has_drop path visit.place i from below)
    where
      alone : length path ≡ visit.place + 1
      alone = ⊎_elim
          (λ (more : visit.place + 1 < length path). let le = is.cycle more in absurd (omega (arith, le, low)))
          (λ (most : length path ≤ visit.place + 1). omega (arith, most, inside))
          (cases_lt (visit.place + 1) (length path))

      need_closed : (b : ℕ) → Needs lists (get_or path i 0) b → has b order ≡ true
      need_closed b need = by_mark (mark_at marks b) refl (all_settled lists marks path visit (length path) is done i b from below need)
        where
          by_mark : (mark : Mark) → mark_at marks b ≡ mark → IsSettled visit.low mark → has b order ≡ true
          by_mark Unseen e h = absurd h
          by_mark (Open j) e h = let within = (are.open_at b j e).0 in absurd (omega (arith, h, low, alone, within))
          by_mark Closed e h = are.closed b e

      first_need : {a b : ℕ} → ((c : ℕ) → Needs lists a c → has c order ≡ true) → LeadsTo lists a b → has b order ≡ true
      first_need needs (at_once need) = needs _ need
      first_need needs (after need more) = closed_leads lists order closed.needs more (needs _ need)

      old : LeadsTo lists (get_or path i 0) (get_or path i 0) → has (get_or path i 0) order ≡ true
      old leads_to = first_need need_closed leads_to

  module _ (flags : List Bool) where
    pub closed_nodes : AreFlags visit path on_cycle flags → AreClosed lists (order ++ drop visit.place path) flags
    closed_nodes flagged = record {
      count = count flagged;
      once = once-append order (drop visit.place path) closed.once (distinct lists marks path order visit.place are (omega (arith, inside))) is_fresh;
      needs = all_there;
      cycles = λ a h. ⊎_elim
          (λ old. subst (λ b. (b ≡ true) ↔ LeadsTo lists a a) (sym (stays flagged a (not_now a old))) (closed.cycles a old))
          (λ now. by_flag flagged a now)
          (has-append_cases a order (drop visit.place path) h);
      others = λ a out. stays flagged a (out_right a out) ∙ closed.others a (out_left a out);
      in_order = in_order;
    }
      where
        count : AreFlags visit path on_cycle flags → length flags ≡ length lists
        count (inl h) = ap length h.1 ∙ length-with_each on_cycle (drop visit.place path) true ∙ closed.count
        count (inr h) = ap length h.1 ∙ closed.count

        not_now : (a : ℕ) → has a order ≡ true → has a (drop visit.place path) ≡ false
        not_now a old = ⊎_elim (λ now. absurd (is_fresh a old now)) (λ out. out) (has_or_not a (drop visit.place path))

        out_right : (a : ℕ) → has a (order ++ drop visit.place path) ≡ false → has a (drop visit.place path) ≡ false
        out_right a out = ⊎_elim (λ now. absurd (false≢true (sym out ∙ has-append_right a order (drop visit.place path) now))) (λ h. h) (has_or_not a (drop visit.place path))

        out_left : (a : ℕ) → has a (order ++ drop visit.place path) ≡ false → has a order ≡ false
        out_left a out = ⊎_elim (λ old. absurd (false≢true (sym out ∙ has-append_left a order (drop visit.place path) old))) (λ h. h) (has_or_not a order)

        stays : AreFlags visit path on_cycle flags → (a : ℕ) → has a (drop visit.place path) ≡ false → get_or flags a false ≡ get_or on_cycle a false
        stays (inl h) a out = ap (λ xs. get_or xs a false) h.1 ∙ with_each_other on_cycle (drop visit.place path) true a false out
        stays (inr h) a out = ap (λ xs. get_or xs a false) h.1

        by_flag : AreFlags visit path on_cycle flags → (a : ℕ) → has a (drop visit.place path) ≡ true → (get_or flags a false ≡ true) ↔ LeadsTo lists a a
        by_flag (inl h) a now =
            let (i, from, below, at) = drop_has a visit.place path now in
            let met : a < length marks = met_inside marks a (λ new. let e : Unseen ≡ Open i = sym new ∙ ap (mark_at marks) (sym at) ∙ are.stands i below in cc) in
            let marks_count = are.count in
            let flags_count = closed.count in (
              λ _. subst (λ c. LeadsTo lists c c) at (each_on_cycle h.0 i from below),
              λ _. ap (λ xs. get_or xs a false) h.1 ∙ with_each_same on_cycle (drop visit.place path) true a false now (omega (arith, met, marks_count, flags_count)),
            )
        by_flag (inr h) a now =
            let (i, from, below, at) = drop_has a visit.place path now in
            let out : has a order ≡ false = ⊎_elim (λ old. absurd (is_fresh a old now)) (λ out. out) (has_or_not a order) in (
              λ flag. absurd (false≢true (sym (ap (λ xs. get_or xs a false) h.1 ∙ closed.others a out) ∙ flag)),
              λ leads_back. absurd (none_on_cycle h.0 i from below (subst (λ c. LeadsTo lists c c) (sym at) leads_back)),
            )

        in_order : InOrder lists (order ++ drop visit.place path)
        in_order front back a b splits leads_there not_back = ⊎_elim
            (λ (found : (rest : List ℕ) × (order ≡ front ++ a ∷ rest)). closed.in_order front found.0 a b found.1 leads_there not_back)
            (λ (found : (more : List ℕ) × (front ≡ order ++ more) × (drop visit.place path ≡ more ++ a ∷ back)).
            let now : has a (drop visit.place path) ≡ true = subst (λ xs. has a xs ≡ true) (sym found.2) (has-append_right a found.0 (a ∷ back) (has_first a back)) in
            let there = closed_leads lists (order ++ drop visit.place path) all_there leads_there (has-append_right a order (drop visit.place path) now) in
            subst (λ xs. has b xs ≡ true) (sym found.1) (has-append_left b order found.0 (⊎_elim
            (λ old. old)
            (λ (with_it : has b (drop visit.place path) ≡ true). absurd (not_back (back_from a b now with_it leads_there)))
            (has-append_cases b order (drop visit.place path) there))))
            (split_append order (drop visit.place path) front back a splits)
          where
            same_or_not : (j i : ℕ) → (j ≡ i) ⊎ (j ≡ i → ⊥)
            same_or_not j i = ⊎_elim (λ less. inr (λ same. omega (arith, less, same))) (λ most. ⊎_elim (λ more. inr (λ same. omega (arith, more, same))) (λ least. inl (omega (arith, most, least))) (cases_lt i j)) (cases_lt j i)

            back_from : (a b : ℕ) → has a (drop visit.place path) ≡ true → has b (drop visit.place path) ≡ true → LeadsTo lists a b → LeadsTo lists b a
            back_from a b now with_it leads_there =
                let (i, from_i, below_i, at_i) = drop_has a visit.place path now in
                let (j, from_j, below_j, at_j) = drop_has b visit.place path with_it in
                ⊎_elim
                (λ (same : j ≡ i). let equal : a ≡ b = sym at_i ∙ ap (λ k. get_or path k 0) (sym same) ∙ at_j in subst (λ c. LeadsTo lists b c) (sym equal) (subst (λ c. LeadsTo lists c b) equal leads_there))
                (λ (other : j ≡ i → ⊥). subst (λ c. LeadsTo lists b c) at_i (subst (λ c. LeadsTo lists c (get_or path i 0)) at_j (together j i from_j below_j from_i below_i other)))
                (same_or_not j i)
