-- Lists of nodes: what they have, two of them joined, and one with a value at each of some places. Serves the search.
use Rattle.std.proofs.Common.{◌≡◌, ◌≢◌, ◌∙◌, sym, ap, refl, arith, ℕ, zero, suc, ◌+◌, ◌-◌, ◌<◌, ◌≤◌, ◌⊎◌, inl, inr, ⊎_elim, Bool, true, false, ◌||◌, List, [], ◌∷◌, ◌++◌, length, drop, get_or, set, nat_eq, subst}
use Rattle.std.specs.List.{AllPairs}
use Rattle.std.proofs.lemmas.Bool.{cases_lt, or_cases, or_left, or_right, false≢true}
use Rattle.std.proofs.lemmas.Bool.Decides.{nat_tests}
use Rattle.std.proofs.lemmas.List.{get_or-set_same, get_or-set_other, get_or_append_left, get_or-append_right, get_or-drop, length-append, length-drop, length-set}
use Rattle.std.proofs.lemmas.List.Folds.{list_any-append, list_any_at}
use Rattle.needs_order.specs.Needs.{has}
use Rattle.needs_order.specs.internal.Search.{with_each}

pub nat_eq_self : (a : ℕ) → nat_eq a a ≡ true
nat_eq_self a = grind (arith, nat_tests)

pub nat_eq_equal : (a b : ℕ) → nat_eq a b ≡ true → a ≡ b
nat_eq_equal a b h = grind (arith, nat_tests)

-- a list has what either part has
pub has-append_left : (a : ℕ) (xs ys : List ℕ) → has a xs ≡ true → has a (xs ++ ys) ≡ true
has-append_left a xs ys h = list_any-append (λ k. nat_eq k a) xs ys ∙ or_left (has a xs) (has a ys) h

pub has-append_right : (a : ℕ) (xs ys : List ℕ) → has a ys ≡ true → has a (xs ++ ys) ≡ true
has-append_right a xs ys h = list_any-append (λ k. nat_eq k a) xs ys ∙ or_right (has a xs) (has a ys) h

pub has-append_cases : (a : ℕ) (xs ys : List ℕ) → has a (xs ++ ys) ≡ true → (has a xs ≡ true) ⊎ (has a ys ≡ true)
has-append_cases a xs ys h = or_cases (has a xs) (has a ys) (sym (list_any-append (λ k. nat_eq k a) xs ys) ∙ h)

-- a list has it or not
pub has_or_not : (a : ℕ) (xs : List ℕ) → (has a xs ≡ true) ⊎ (has a xs ≡ false)
has_or_not a xs = either (has a xs) refl
  where
    either : (b : Bool) → has a xs ≡ b → (has a xs ≡ true) ⊎ (has a xs ≡ false)
    either true e = inl e
    either false e = inr e

-- a list has its first element, and what the rest has
pub has_first : (a : ℕ) (xs : List ℕ) → has a (a ∷ xs) ≡ true
has_first a xs = or_left (nat_eq a a) (has a xs) (nat_eq_self a)

pub has_cases : (a x : ℕ) (xs : List ℕ) → has a (x ∷ xs) ≡ true → (x ≡ a) ⊎ (has a xs ≡ true)
has_cases a x xs h = ⊎_elim (λ same. inl (nat_eq_equal x a same)) (λ later. inr later) (or_cases (nat_eq x a) (has a xs) h)

-- a list has what stands in it
pub has_at : (xs : List ℕ) (m : ℕ) → m < length xs → has (get_or xs m 0) xs ≡ true
has_at xs m h = list_any_at (λ k. nat_eq k (get_or xs m 0)) xs m 0 h (nat_eq_self (get_or xs m 0))

-- what a list has stands in it
pub at_has : (a : ℕ) (xs : List ℕ) → has a xs ≡ true → (m : ℕ) × (m < length xs) × (get_or xs m 0 ≡ a)
at_has a [] h = absurd (false≢true h)
at_has a (x ∷ xs) h = ⊎_elim
    (λ (same : x ≡ a). (zero, omega arith, same))
    (λ later. let (m, inside, is) = at_has a xs later in (suc m, omega (arith, inside), is))
    (has_cases a x xs h)

-- what stands at a place or after it
pub has_drop : (xs : List ℕ) (from i : ℕ) → from ≤ i → i < length xs → has (get_or xs i 0) (drop from xs) ≡ true
has_drop xs from i after inside =
    let there : i - from < length (drop from xs) = omega (arith, after, inside, length-drop from xs) in
    let same : from + (i - from) ≡ i = omega (arith, after) in
    subst (λ a. has a (drop from xs) ≡ true) (get_or-drop from xs (i - from) 0 ∙ ap (λ k. get_or xs k 0) same) (has_at (drop from xs) (i - from) there)

pub drop_has : (a from : ℕ) (xs : List ℕ) → has a (drop from xs) ≡ true → (i : ℕ) × (from ≤ i) × (i < length xs) × (get_or xs i 0 ≡ a)
drop_has a from xs h =
    let (m, inside, is) = at_has a (drop from xs) h in
    (from + m, omega arith, omega (arith, inside, length-drop from xs), sym (get_or-drop from xs m 0) ∙ is)

-- where one element of two joined lists stands
pub split_append : (xs ys front back : List ℕ) (a : ℕ) → xs ++ ys ≡ front ++ a ∷ back
    → ((rest : List ℕ) × (xs ≡ front ++ a ∷ rest)) ⊎ ((more : List ℕ) × (front ≡ xs ++ more) × (ys ≡ more ++ a ∷ back))
split_append [] ys front back a e = inr (front, refl, e)
split_append (x ∷ xs) ys [] back a e = let first : x ≡ a = cc in inl (xs, ap (λ y. y ∷ xs) first)
split_append (x ∷ xs) ys (y ∷ front) back a e =
    let first : x ≡ y = cc in
    let others : xs ++ ys ≡ front ++ a ∷ back = cc in
    ⊎_elim
    (λ (found : (rest : List ℕ) × (xs ≡ front ++ a ∷ rest)). let (rest, is) = found in inl (rest, cc))
    (λ (found : (more : List ℕ) × (front ≡ xs ++ more) × (ys ≡ more ++ a ∷ back)). let (more, is, behind) = found in inr (more, cc, behind))
    (split_append xs ys front back a others)

-- two lists that have no number twice, and none in common
pub once-append : (xs ys : List ℕ) → AllPairs (λ a b. a ≢ b) xs → AllPairs (λ a b. a ≢ b) ys → ((a : ℕ) → has a xs ≡ true → has a ys ≡ true → ⊥) → AllPairs (λ a b. a ≢ b) (xs ++ ys)
once-append xs ys first second apart i j d before inside = by_place (cases_lt j (length xs)) (cases_lt i (length xs))
  where
    count : length (xs ++ ys) ≡ length xs + length ys
    count = length-append xs ys

    left_at : (k : ℕ) → k < length xs → get_or (xs ++ ys) k d ≡ get_or xs k d
    left_at k h = get_or_append_left xs ys d k h

    right_at : (k : ℕ) → length xs ≤ k → get_or (xs ++ ys) k d ≡ get_or ys (k - length xs) d
    right_at k h = get_or-append_right xs ys (length xs) k d refl h

    by_place : (j < length xs) ⊎ (length xs ≤ j) → (i < length xs) ⊎ (length xs ≤ i) → get_or (xs ++ ys) i d ≢ get_or (xs ++ ys) j d
    by_place (inl j_left) i_at same = first i j d before j_left (sym (left_at i (omega arith)) ∙ same ∙ left_at j j_left)
    by_place (inr j_right) (inl i_left) same =
        let there : j - length xs < length ys = omega (arith, count) in
        apart (get_or xs i d)
        (list_any_at (λ k. nat_eq k (get_or xs i d)) xs i d i_left (nat_eq_self (get_or xs i d)))
        (subst (λ a. has a ys ≡ true) (sym (right_at j j_right) ∙ sym same ∙ left_at i i_left) (list_any_at (λ k. nat_eq k (get_or ys (j - length xs) d)) ys (j - length xs) d there (nat_eq_self (get_or ys (j - length xs) d))))
    by_place (inr j_right) (inr i_right) same = second (i - length xs) (j - length xs) d (omega arith) (omega (arith, count)) (sym (right_at i i_right) ∙ same ∙ right_at j j_right)

module _ {T : Type 0} where
  pub length-with_each : (list : List T) (places : List ℕ) (value : T) → length (with_each list places value) ≡ length list
  length-with_each list [] value = refl
  length-with_each list (p ∷ places) value = length-with_each (set list p value) places value ∙ length-set list p value

  -- every other place stays
  pub with_each_other : (list : List T) (places : List ℕ) (value : T) (a : ℕ) (d : T) → has a places ≡ false → get_or (with_each list places value) a d ≡ get_or list a d
  with_each_other list [] value a d out = refl
  with_each_other list (p ∷ places) value a d out =
      with_each_other (set list p value) places value a d (later (nat_eq p a) (has a places) out)
      ∙ get_or-set_other list p a value d (λ same. false≢true (sym out ∙ or_left (nat_eq p a) (has a places) (ap (nat_eq p) same ∙ nat_eq_self p)))
    where
      later : (x y : Bool) → (x || y) ≡ false → y ≡ false
      later false y h = h
      later true y h = absurd (false≢true (sym h))

  -- and each of the places has the value
  pub with_each_same : (list : List T) (places : List ℕ) (value : T) (a : ℕ) (d : T) → has a places ≡ true → a < length list → get_or (with_each list places value) a d ≡ value
  with_each_same list [] value a d h inside = absurd (false≢true h)
  with_each_same list (p ∷ places) value a d h inside = ⊎_elim
      (λ later. with_each_same (set list p value) places value a d later (omega (arith, inside, length-set list p value)))
      (λ out. with_each_other (set list p value) places value a d out ∙ ⊎_elim
      (λ (same : p ≡ a). subst (λ k. get_or (set list p value) k d ≡ value) same (get_or-set_same list p value d (subst (λ k. k < length list) (sym same) inside)))
      (λ (later : has a places ≡ true). absurd (false≢true (sym out ∙ later)))
      (has_cases a p places h))
      (has_or_not a places)
