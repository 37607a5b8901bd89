-- A node that is met now: it stands at the end of the path, and its visit begins. Serves the search.
use Rattle.std.proofs.Common.{◌≡◌, ◌∙◌, sym, ap, arith, ℕ, ◌+◌, ◌<◌, ◌≤◌, ◌⊎◌, inl, inr, true, false, List, [], ◌∷◌, ◌++◌, length, get_or, set, nat_eq, subst}
use Rattle.std.proofs.lemmas.Bool.{cases_lt}
use Rattle.std.proofs.lemmas.Bool.Decides.{eqb_tells}
use Rattle.std.proofs.lemmas.List.{get_or-set_same, get_or-set_other, get_or_append_left, get_or_push, length_push, length-set}
use Rattle.needs_order.specs.declared.search.Mark.{Mark}
use Rattle.needs_order.specs.declared.search.Mark.TheVariants.{Unseen, Open, Closed}
use Rattle.needs_order.specs.declared.search.Visit.{Visit}
use Rattle.needs_order.specs.Needs.{has, LeadsTo}
use Rattle.needs_order.specs.internal.Search.{mark_at, AreMarks, IsPath, IsSettled, AreStretches}
use Rattle.needs_order.proofs.Stretches.{stretches_stay}

module _ (lists : List (List ℕ)) (marks : List Mark) (path order : List ℕ) (node : ℕ) (are : AreMarks lists marks path order) (inside : node < length lists) (new : mark_at marks node ≡ Unseen) where
  inside_marks : node < length marks
  inside_marks = let count = are.count in omega (arith, count, inside)

  now_open : mark_at (set marks node (Open (length path))) node ≡ Open (length path)
  now_open = get_or-set_same marks node (Open (length path)) Unseen inside_marks

  others_stay : (a : ℕ) → (a ≡ node → ⊥) → mark_at (set marks node (Open (length path))) a ≡ mark_at marks a
  others_stay a other = get_or-set_other marks node a (Open (length path)) Unseen other

  path_stays : (i : ℕ) → i < length path → get_or (path ++ node ∷ []) i 0 ≡ get_or path i 0
  path_stays i h = get_or_append_left path (node ∷ []) 0 i h

  path_ends : get_or (path ++ node ∷ []) (length path) 0 ≡ node
  path_ends = get_or_push path node 0 (length path) refl
    where
      refl : length path ≡ length path
      refl = omega arith

  -- what was met stays settled
  settled : (low b : ℕ) → IsSettled low (mark_at marks b) → IsSettled low (mark_at (set marks node (Open (length path))) b)
  settled low b h = subst (λ m. IsSettled low m) (sym (others_stay b (λ same. subst (λ m. IsSettled low m) (ap (mark_at marks) same ∙ new) h))) h

  pub opened_marks : AreMarks lists (set marks node (Open (length path))) (path ++ node ∷ []) order
  opened_marks = record {
    count = length-set marks node (Open (length path)) ∙ are.count;
    stands = λ i below. stands i below (cases_lt i (length path));
    open_at = λ a i is. open_at a i is (eqb_tells a node);
    closed = λ a is. closed a is (eqb_tells a node);
    placed = λ a h. others_stay a (λ same. absurd (clash a same h)) ∙ are.placed a h;
  }
    where
      clash : (a : ℕ) → a ≡ node → has a order ≡ true → ⊥
      clash a same h = let e : Unseen ≡ Closed = sym new ∙ ap (mark_at marks) (sym same) ∙ are.placed a h in cc

      count : length (path ++ node ∷ []) ≡ length path + 1
      count = length_push path node

      stands : (i : ℕ) → i < length (path ++ node ∷ []) → (i < length path) ⊎ (length path ≤ i) → mark_at (set marks node (Open (length path))) (get_or (path ++ node ∷ []) i 0) ≡ Open i
      stands i below (inl old) =
          ap (mark_at (set marks node (Open (length path)))) (path_stays i old)
          ∙ others_stay (get_or path i 0) (λ same. let e : Unseen ≡ Open i = sym new ∙ ap (mark_at marks) (sym same) ∙ are.stands i old in absurd (cc))
          ∙ are.stands i old
      stands i below (inr last) =
          let same : i ≡ length path = omega (arith, below, count, last) in
          ap (λ k. mark_at (set marks node (Open (length path))) (get_or (path ++ node ∷ []) k 0)) same
          ∙ ap (mark_at (set marks node (Open (length path)))) path_ends ∙ now_open ∙ ap Open (sym same)

      open_at : (a i : ℕ) → mark_at (set marks node (Open (length path))) a ≡ Open i → ((nat_eq a node ≡ true) × (a ≡ node)) ⊎ ((nat_eq a node ≡ false) × (a ≡ node → ⊥)) → (i < length (path ++ node ∷ [])) × (get_or (path ++ node ∷ []) i 0 ≡ a)
      open_at a i is (inl same) =
          let e : Open (length path) ≡ Open i = sym now_open ∙ ap (mark_at (set marks node (Open (length path)))) (sym same.1) ∙ is in
          let at : i ≡ length path = cc in
          (omega (arith, at, count), ap (λ k. get_or (path ++ node ∷ []) k 0) at ∙ path_ends ∙ sym same.1)
      open_at a i is (inr other) =
          let old = are.open_at a i (sym (others_stay a other.1) ∙ is) in
          let before = old.0 in
          (omega (arith, before, count), path_stays i before ∙ old.1)

      closed : (a : ℕ) → mark_at (set marks node (Open (length path))) a ≡ Closed → ((nat_eq a node ≡ true) × (a ≡ node)) ⊎ ((nat_eq a node ≡ false) × (a ≡ node → ⊥)) → has a order ≡ true
      closed a is (inl same) = let e : Open (length path) ≡ Closed = sym now_open ∙ ap (mark_at (set marks node (Open (length path)))) (sym same.1) ∙ is in absurd (cc)
      closed a is (inr other) = are.closed a (sym (others_stay a other.1) ∙ is)

  -- each node of the path leads to the new one, where each leads to what needs it
  pub opened_path : IsPath lists path → ((i : ℕ) → i < length path → LeadsTo lists (get_or path i 0) node) → IsPath lists (path ++ node ∷ [])
  opened_path leads to_new i j before below = by_place (cases_lt j (length path))
    where
      count : length (path ++ node ∷ []) ≡ length path + 1
      count = length_push path node

      by_place : (j < length path) ⊎ (length path ≤ j) → LeadsTo lists (get_or (path ++ node ∷ []) i 0) (get_or (path ++ node ∷ []) j 0)
      by_place (inl old) = subst (λ b. LeadsTo lists (get_or (path ++ node ∷ []) i 0) b) (sym (path_stays j old)) (subst (λ a. LeadsTo lists a (get_or path j 0)) (sym (path_stays i (omega arith))) (leads i j before old))
      by_place (inr last) =
          let same : j ≡ length path = omega (arith, below, count, last) in
          let old : i < length path = omega (arith, before, same) in
          subst (λ b. LeadsTo lists (get_or (path ++ node ∷ []) i 0) b) (sym path_ends ∙ ap (λ k. get_or (path ++ node ∷ []) k 0) (sym same)) (subst (λ a. LeadsTo lists a node) (sym (path_stays i old)) (to_new i old))

  -- its stretch is the node alone
  pub opened_stretches : (visit : Visit) (visits : List Visit) → visit ≡ record { node = node; place = length path; next = 0; low = length path + 1 } → AreStretches lists marks path (length path) visits
      → AreStretches lists (set marks node (Open (length path))) (path ++ node ∷ []) (length (path ++ node ∷ [])) (visit ∷ visits)
  opened_stretches visit visits is old = (
    record {
      inside = omega (arith, place, count);
      stands = ap (λ k. get_or (path ++ node ∷ []) k 0) place ∙ path_ends ∙ sym (ap (λ v. v.node) is);
      returns = λ i above below. absurd (omega (arith, above, below, place, count));
      gone_through = λ m before within. absurd (omega (arith, before, ap (λ (v : Visit). v.next) is));
      finished = λ i b above below need. absurd (omega (arith, above, below, place, count));
      back = λ le. absurd (omega (arith, le, place, low));
      cycle = λ more. absurd (omega (arith, more, place, count));
    },
    subst (λ end. AreStretches lists (set marks node (Open (length path))) (path ++ node ∷ []) end visits) (sym place)
        (stretches_stay lists marks (set marks node (Open (length path))) path (path ++ node ∷ []) settled (length path) visits path_stays old),
  )
    where
      place : visit.place ≡ length path
      place = ap (λ v. v.place) is

      low : visit.low ≡ length path + 1
      low = ap (λ v. v.low) is

      count : length (path ++ node ∷ []) ≡ length path + 1
      count = length_push path node
