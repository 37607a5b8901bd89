-- What marks say, and how many nodes are unseen. Serves the search.
use Rattle.std.proofs.Common.{◌≡◌, ◌≢◌, refl, arith, ℕ, zero, suc, ◌+◌, ◌<◌, ◌≤◌, ◌⊎◌, inl, inr, ⊎_elim, List, [], ◌∷◌, length, set}
use Rattle.std.proofs.lemmas.Bool.{cases_lt}
use Rattle.std.proofs.lemmas.List.{get_or_past}
use Rattle.needs_order.specs.declared.search.Mark.{Mark}
use Rattle.needs_order.specs.declared.search.Mark.TheVariants.{Unseen, Open, Closed}
use Rattle.needs_order.specs.internal.Search.{mark_at, unseen, with_each, IsSettled}

-- a node that is settled above a place is so above a lower one
pub settled_lower : (low lower : ℕ) (mark : Mark) → lower ≤ low → IsSettled low mark → IsSettled lower mark
settled_lower low lower Unseen le h = h
settled_lower low lower (Open place) le h = omega arith
settled_lower low lower Closed le h = h

-- what was met has a place among the marks
pub met_inside : (marks : List Mark) (a : ℕ) → mark_at marks a ≢ Unseen → a < length marks
met_inside marks a met = ⊎_elim (λ inside. inside) (λ past. absurd (met (get_or_past marks a Unseen past))) (cases_lt a (length marks))

-- a mark is one of three
pub mark_cases : (mark : Mark) → (mark ≡ Unseen) ⊎ (((i : ℕ) × (mark ≡ Open i)) ⊎ (mark ≡ Closed))
mark_cases Unseen = inl refl
mark_cases (Open i) = inr (inl (i, refl))
mark_cases Closed = inr (inr refl)

-- one node more is met
pub unseen-met : (marks : List Mark) (a i : ℕ) → a < length marks → mark_at marks a ≡ Unseen → unseen (set marks a (Open i)) + 1 ≡ unseen marks
unseen-met [] a i inside new = absurd (omega arith)
unseen-met (Unseen ∷ marks) zero i inside new = omega arith
unseen-met (Open j ∷ marks) zero i inside new = absurd (cc)
unseen-met (Closed ∷ marks) zero i inside new = absurd (cc)
unseen-met (Unseen ∷ marks) (suc a) i inside new = let rest = unseen-met marks a i (omega arith) new in omega (arith, rest)
unseen-met (Open j ∷ marks) (suc a) i inside new = unseen-met marks a i (omega arith) new
unseen-met (Closed ∷ marks) (suc a) i inside new = unseen-met marks a i (omega arith) new

-- closing a node leaves no more unseen
pub unseen-closed : (marks : List Mark) (a : ℕ) → unseen (set marks a Closed) ≤ unseen marks
unseen-closed [] a = omega arith
unseen-closed (Unseen ∷ marks) zero = omega arith
unseen-closed (Open j ∷ marks) zero = omega arith
unseen-closed (Closed ∷ marks) zero = omega arith
unseen-closed (Unseen ∷ marks) (suc a) = let rest = unseen-closed marks a in omega (arith, rest)
unseen-closed (Open j ∷ marks) (suc a) = unseen-closed marks a
unseen-closed (Closed ∷ marks) (suc a) = unseen-closed marks a

pub unseen-each_closed : (marks : List Mark) (places : List ℕ) → unseen (with_each marks places Closed) ≤ unseen marks
unseen-each_closed marks [] = omega arith
unseen-each_closed marks (a ∷ places) = let more = unseen-each_closed (set marks a Closed) places in let first = unseen-closed marks a in omega (arith, more, first)
