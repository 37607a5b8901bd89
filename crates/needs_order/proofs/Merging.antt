-- A visit ends whose needs lead back below its place: its stretch becomes part of the one below. Serves the search.
use Rattle.std.proofs.Common.{◌≡◌, ◌∙◌, sym, ap, arith, ℕ, ◌<◌, ◌≤◌, ◌⊎◌, inl, inr, ⊎_elim, min, List, length, get_or, subst}
use Rattle.std.proofs.lemmas.Bool.{cases_lt}
use Rattle.needs_order.specs.declared.search.Mark.{Mark}
use Rattle.needs_order.specs.declared.search.Visit.{Visit}
use Rattle.needs_order.specs.Needs.{Needs, LeadsTo}
use Rattle.needs_order.specs.internal.Search.{needs_of, mark_at, lowered, IsPath, IsSettled, IsStretch}
use Rattle.needs_order.proofs.Lists.{at_has}
use Rattle.needs_order.proofs.Leads.{leads_on}
use Rattle.needs_order.proofs.Marks.{settled_lower}

-- the needs of a stretch whose visit is at its end are all settled
pub all_settled : (lists : List (List ℕ)) (marks : List Mark) (path : List ℕ) (visit : Visit) (end : ℕ) → IsStretch lists marks path visit end → length (needs_of lists visit.node) ≤ visit.next
    → (i b : ℕ) → visit.place ≤ i → i < end → Needs lists (get_or path i 0) b → IsSettled visit.low (mark_at marks b)
all_settled lists marks path visit end is done i b from below need = ⊎_elim
    (λ (above : visit.place < i). is.finished i b above below need)
    (λ (first : i ≤ visit.place).
    let same : i ≡ visit.place = omega (arith, from, first) in
    let own : Needs lists visit.node b = subst (λ a. Needs lists a b) (ap (λ k. get_or path k 0) same ∙ is.stands) need in
    let (m, within, at) = at_has b (needs_of lists visit.node) own in
    subst (λ c. IsSettled visit.low (mark_at marks c)) at (is.gone_through m (omega (arith, within, done)) within))
    (cases_lt visit.place i)

module _ (lists : List (List ℕ)) (marks : List Mark) (path : List ℕ) (visit below : Visit) (end : ℕ) (within_path : end ≤ length path) (leads : IsPath lists path) (is : IsStretch lists marks path visit end) (under : IsStretch lists marks path below visit.place) (done : length (needs_of lists visit.node) ≤ visit.next) (lower : visit.low < visit.place) where
  -- the visited node leads back to the one below
  to_below : LeadsTo lists visit.node below.node
  to_below = by_place (cases_lt visit.low below.place) (cases_lt below.place visit.low)
    where
      to_low : LeadsTo lists visit.node (get_or path visit.low 0)
      to_low = is.back (omega (arith, lower))

      inside : visit.place < end
      inside = is.inside

      inside_below : below.place < visit.place
      inside_below = under.inside

      by_place : (visit.low < below.place) ⊎ (below.place ≤ visit.low) → (below.place < visit.low) ⊎ (visit.low ≤ below.place) → LeadsTo lists visit.node below.node
      by_place (inl before) any = leads_on lists to_low (subst (λ b. LeadsTo lists (get_or path visit.low 0) b) under.stands (leads visit.low below.place before (omega (arith, inside, inside_below, within_path))))
      by_place (inr from) (inl above) = leads_on lists to_low (under.returns visit.low above lower)
      by_place (inr from) (inr first) = subst (λ b. LeadsTo lists visit.node b) (ap (λ k. get_or path k 0) (let same : visit.low ≡ below.place = omega (arith, from, first) in same) ∙ under.stands) to_low

  from_below : LeadsTo lists below.node visit.node
  from_below = subst (λ a. LeadsTo lists a visit.node) under.stands (subst (λ b. LeadsTo lists (get_or path below.place 0) b) is.stands (leads below.place visit.place under.inside (let inside = is.inside in omega (arith, inside, within_path))))

  pub merged : IsStretch lists marks path (lowered below visit.low) end
  merged = record {
    inside = let first = under.inside in let second = is.inside in omega (arith, first, second);
    stands = under.stands;
    returns = λ i above ends. returns i above ends (cases_lt i visit.place) (cases_lt visit.place i);
    gone_through = λ m before within. settled_lower below.low (min below.low visit.low) (mark_at marks (get_or (needs_of lists below.node) m 0)) (omega arith) (under.gone_through m before within);
    finished = λ i b above ends need. ⊎_elim
        (λ (old : i < visit.place). settled_lower below.low (min below.low visit.low) (mark_at marks b) (omega arith) (under.finished i b above old need))
        (λ (from : visit.place ≤ i). settled_lower visit.low (min below.low visit.low) (mark_at marks b) (omega arith) (all_settled lists marks path visit end is done i b from ends need))
        (cases_lt i visit.place);
    back = λ le. back le (cases_lt visit.low below.low);
    cycle = λ more. cycle (cases_lt below.place visit.low);
  }
    where
      returns : (i : ℕ) → below.place < i → i < end → (i < visit.place) ⊎ (visit.place ≤ i) → (visit.place < i) ⊎ (i ≤ visit.place) → LeadsTo lists (get_or path i 0) below.node
      returns i above ends (inl old) any = under.returns i above old
      returns i above ends (inr from) (inl inner) = leads_on lists (is.returns i inner ends) to_below
      returns i above ends (inr from) (inr first) = subst (λ a. LeadsTo lists a below.node) (sym is.stands ∙ ap (λ k. get_or path k 0) (let same : visit.place ≡ i = omega (arith, from, first) in same)) to_below

      back : min below.low visit.low ≤ below.place → (visit.low < below.low) ⊎ (below.low ≤ visit.low) → LeadsTo lists below.node (get_or path (min below.low visit.low) 0)
      back le (inl less) = subst (λ k. LeadsTo lists below.node (get_or path k 0)) (let same : visit.low ≡ min below.low visit.low = omega (arith, less) in same) (leads_on lists from_below (is.back (omega (arith, lower))))
      back le (inr more) = subst (λ k. LeadsTo lists below.node (get_or path k 0)) (let same : below.low ≡ min below.low visit.low = omega (arith, more) in same) (under.back (omega (arith, le, more)))

      cycle : (below.place < visit.low) ⊎ (visit.low ≤ below.place) → min below.low visit.low ≤ below.place
      cycle (inl above) = let old = under.cycle (omega (arith, above, lower)) in omega (arith, old)
      cycle (inr le) = omega (arith, le)
