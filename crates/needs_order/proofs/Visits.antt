-- Visits: going through needs, and the last one of a list. Serves the search.
use Rattle.std.proofs.Common.{◌≡◌, ◌∙◌, sym, ap, refl, arith, ℕ, ◌+◌, ◌-◌, ◌<◌, ◌≤◌, ◌⊎◌, inl, inr, ⊎_elim, min, List, [], ◌∷◌, ◌++◌, length, reverse, get_or, set, subst}
use Rattle.std.proofs.lemmas.Bool.{cases_lt}
use Rattle.std.proofs.lemmas.List.{get_or_at, length_push, reverse-append, set_at}
use Rattle.needs_order.specs.declared.search.Mark.{Mark}
use Rattle.needs_order.specs.declared.search.Mark.TheVariants.{Open, Closed}
use Rattle.needs_order.specs.declared.search.Visit.{Visit}
use Rattle.needs_order.specs.internal.Search.{mark_at, lowered, IsSettled}
use Rattle.needs_order.proofs.Marks.{settled_lower}

-- the last of a list comes first in its reverse
pub reverse_last : {X : Type 0} (xs : List X) (x : X) → reverse (xs ++ x ∷ []) ≡ x ∷ reverse xs
reverse_last xs x = reverse-append xs (x ∷ [])

-- a list is empty or has a last element
pub last_or_none : {X : Type 0} (xs : List X) → (xs ≡ []) ⊎ ((front : List X) × (last : X) × (xs ≡ front ++ last ∷ []))
last_or_none [] = inl refl
last_or_none (x ∷ xs) = ⊎_elim
    (λ none. inr ([], x, ap (λ ys. x ∷ ys) none))
    (λ found. let (front, last, is) = found in inr (x ∷ front, last, ap (λ ys. x ∷ ys) is))
    (last_or_none xs)

-- the needs of a visit before `next` are gone through, and lead back to `low`
abbrev pub AreThrough : List ℕ → List Mark → Visit → ℕ → ℕ → Type 0
AreThrough needs marks visit next low =
    (low ≤ visit.low)
    × ((low ≡ visit.low) ⊎ ((m : ℕ) × (m < length needs) × (mark_at marks (get_or needs m 0) ≡ Open low)))
    × ((m : ℕ) → visit.next ≤ m → m < next → m < length needs → IsSettled low (mark_at marks (get_or needs m 0)))

module _ (needs : List ℕ) (marks : List Mark) (visit : Visit) (next low : ℕ) (before : AreThrough needs marks visit next low) where
  -- one more need is gone through
  through_more : (lower : ℕ) → lower ≤ low → IsSettled lower (mark_at marks (get_or needs next 0)) → (m : ℕ) → visit.next ≤ m → m < next + 1 → m < length needs → IsSettled lower (mark_at marks (get_or needs m 0))
  through_more lower le now m start end inside = ⊎_elim
      (λ (earlier : m < next). settled_lower low lower (mark_at marks (get_or needs m 0)) le (before.2 m start earlier inside))
      (λ (here : next ≤ m). let same : next ≡ m = omega (arith, end, here) in subst (λ k. IsSettled lower (mark_at marks (get_or needs k 0))) same now)
      (cases_lt m next)

  -- one that stands on the path
  pub through_open : (place lower : ℕ) → next < length needs → mark_at marks (get_or needs next 0) ≡ Open place → lower ≡ min low place → AreThrough needs marks visit (next + 1) lower
  through_open place lower inside is least = (
    let first = before.0 in omega (arith, first, least),
    ⊎_elim
        (λ (less : place < low). inr (next, inside, is ∙ ap Open (let same : place ≡ lower = omega (arith, less, least) in same)))
        (λ (more : low ≤ place). subst (λ k. (k ≡ visit.low) ⊎ ((m : ℕ) × (m < length needs) × (mark_at marks (get_or needs m 0) ≡ Open k))) (let same : low ≡ lower = omega (arith, more, least) in same) before.1)
        (cases_lt place low),
    through_more lower (omega (arith, least)) (subst (λ m. IsSettled lower m) (sym is) (omega (arith, least))),
  )

  -- one that is closed
  pub through_closed : (lower : ℕ) → mark_at marks (get_or needs next 0) ≡ Closed → lower ≡ low → AreThrough needs marks visit (next + 1) lower
  through_closed lower is same = subst (λ k. AreThrough needs marks visit (next + 1) k) (sym same) (before.0, before.1, through_more low (omega arith) (subst (λ m. IsSettled low m) (sym is) tt))

-- the last visit leads back lower
pub lowers_last : (visits front : List Visit) (last now : Visit) (n low lowest : ℕ) → visits ≡ front ++ last ∷ [] → n ≡ length visits → now ≡ get_or visits (n - 1) now → lowest ≡ min now.low low
    → set visits (n - 1) (record now { low = lowest }) ≡ front ++ lowered last low ∷ []
lowers_last visits front last now n low lowest is count found least =
    let at : length front ≡ n - 1 = omega (arith, count, ap length is, length_push front last) in
    let same : now ≡ last = found ∙ ap (λ xs. get_or xs (n - 1) now) is ∙ get_or_at front last [] now (n - 1) at in
    ap (λ xs. set xs (n - 1) (record now { low = lowest })) is
    ∙ set_at front last [] (record now { low = lowest }) (n - 1) at
    ∙ ap (λ v. front ++ v ∷ []) (ap (λ k. record now { low = k }) least ∙ ap (λ v. lowered v low) same)
