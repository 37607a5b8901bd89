-- Stretches of the path stay so while the path grows or shrinks above them. Serves the search.
use Rattle.std.proofs.Common.{◌≡◌, ◌∙◌, sym, ap, arith, ℕ, ◌+◌, ◌<◌, ◌≤◌, ⊎_elim, List, [], ◌∷◌, length, get_or, subst}
use Rattle.std.proofs.lemmas.Bool.{cases_lt}
use Rattle.needs_order.specs.declared.search.Mark.{Mark}
use Rattle.needs_order.specs.declared.search.Mark.TheVariants.{Open}
use Rattle.needs_order.specs.declared.search.Visit.{Visit}
use Rattle.needs_order.specs.Needs.{Needs, LeadsTo}
use Rattle.needs_order.specs.Needs.LeadsTo.{at_once}
use Rattle.needs_order.specs.internal.Search.{needs_of, mark_at, AreMarks, IsSettled, IsStretch, AreStretches, GoesThrough}
use Rattle.needs_order.proofs.Lists.{has_at}
use Rattle.needs_order.proofs.Marks.{settled_lower}

module _ (lists : List (List ℕ)) (marks new_marks : List Mark) (path new_path : List ℕ) (settled : (low b : ℕ) → IsSettled low (mark_at marks b) → IsSettled low (mark_at new_marks b)) where
  pub stretch_stays : (visit : Visit) (end : ℕ) → ((i : ℕ) → i < end → get_or new_path i 0 ≡ get_or path i 0) → IsStretch lists marks path visit end → IsStretch lists new_marks new_path visit end
  stretch_stays visit end same old = record {
    inside = old.inside;
    stands = same visit.place old.inside ∙ old.stands;
    returns = λ i above below. subst (λ a. LeadsTo lists a visit.node) (sym (same i below)) (old.returns i above below);
    gone_through = λ m before within. settled visit.low (get_or (needs_of lists visit.node) m 0) (old.gone_through m before within);
    finished = λ i b above below need. settled visit.low b (old.finished i b above below (subst (λ a. Needs lists a b) (same i below) need));
    back = λ le. subst (λ a. LeadsTo lists visit.node a) (sym (same visit.low (let inside = old.inside in omega (arith, le, inside)))) (old.back le);
    cycle = old.cycle;
  }

  pub stretches_stay : (end : ℕ) (visits : List Visit) → ((i : ℕ) → i < end → get_or new_path i 0 ≡ get_or path i 0) → AreStretches lists marks path end visits → AreStretches lists new_marks new_path end visits
  stretches_stay end [] same old = old
  stretches_stay end (visit ∷ visits) same old = (
    stretch_stays visit end same old.0,
    stretches_stay visit.place visits (λ i below. same i (let inside = old.0.inside in omega (arith, below, inside))) old.1,
  )

-- a stretch after more needs of its node were gone through
pub stretch_goes_on : (lists : List (List ℕ)) (marks : List Mark) (path order : List ℕ) (old new : Visit) (end : ℕ) → AreMarks lists marks path order → IsStretch lists marks path old end → GoesThrough (needs_of lists old.node) marks old new → IsStretch lists marks path new end
stretch_goes_on lists marks path order old new end are was goes = record {
  inside = subst (λ p. p < end) (sym goes.place) was.inside;
  stands = ap (λ p. get_or path p 0) goes.place ∙ was.stands ∙ sym goes.node;
  returns = λ i above below. subst (λ a. LeadsTo lists (get_or path i 0) a) (sym goes.node) (was.returns i (subst (λ p. p < i) goes.place above) below);
  gone_through = λ m before within. through m before (subst (λ a. m < length (needs_of lists a)) goes.node within);
  finished = λ i b above below need. settled_lower old.low new.low (mark_at marks b) goes.lower (was.finished i b (subst (λ p. p < i) goes.place above) below need);
  back = λ le. subst (λ a. LeadsTo lists a (get_or path new.low 0)) (sym goes.node) (leads_back le);
  cycle = λ more. let lower = goes.lower in let place = goes.place in let cycle = was.cycle (subst (λ p. p + 1 < end) place more) in omega arith;
}
  where
    through : (m : ℕ) → m < new.next → m < length (needs_of lists old.node) → IsSettled new.low (mark_at marks (get_or (needs_of lists new.node) m 0))
    through m before within = subst (λ a. IsSettled new.low (mark_at marks (get_or (needs_of lists a) m 0))) (sym goes.node) (⊎_elim
        (λ (earlier : m < old.next). settled_lower old.low new.low (mark_at marks (get_or (needs_of lists old.node) m 0)) goes.lower (was.gone_through m earlier within))
        (λ (now : old.next ≤ m). goes.settled m now before within)
        (cases_lt m old.next))

    leads_back : new.low ≤ new.place → LeadsTo lists old.node (get_or path new.low 0)
    leads_back le = ⊎_elim
        (λ (same : new.low ≡ old.low). subst (λ k. LeadsTo lists old.node (get_or path k 0)) (sym same) (was.back (let place = goes.place in omega arith)))
        (λ (found : (m : ℕ) × (m < length (needs_of lists old.node)) × (mark_at marks (get_or (needs_of lists old.node) m 0) ≡ Open new.low)).
        let (m, within, is) = found in
        at_once (subst (λ b. Needs lists old.node b) (sym (are.open_at (get_or (needs_of lists old.node) m 0) new.low is).1) (has_at (needs_of lists old.node) m within)))
        goes.low
