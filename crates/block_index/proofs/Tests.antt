-- Lists of which one passes a test. Serves what cells find.
use Rattle.std.proofs.Common.{◌≡◌, ◌∙◌, sym, ap, refl, subst, ℕ, ◌+◌, ◌<◌, inl, inr, ◌⊎◌, ⊎_elim, Bool, true, false, ◌||◌, List, [], ◌∷◌, ◌++◌, Option, Some, None, take, length, get_or, nat_eq}
use Rattle.std.specs.List.{list_any, filter_map, cons_option}
use Rattle.std.specs.Option.{option_to_list}
use Rattle.std.proofs.lemmas.Bool.{or_cases, or_left, or_right, false≢true}
use Rattle.std.proofs.lemmas.List.{take_more}
use Rattle.needs_order.specs.Needs.{has}
use Rattle.needs_order.proofs.Lists.{has_cases, has_first}

module _ {X : Type 0} where
  -- where one test passes, so does the other
  pub any_more : (q r : X → Bool) (xs : List X) → ((x : X) → q x ≡ true → r x ≡ true) → list_any q xs ≡ true → list_any r xs ≡ true
  any_more q r [] more h = absurd (false≢true h)
  any_more q r (x ∷ xs) more h = ⊎_elim
      (λ (here : q x ≡ true). or_left (r x) (list_any r xs) (more x here))
      (λ (later : list_any q xs ≡ true). or_right (r x) (list_any r xs) (any_more q r xs more later))
      (or_cases (q x) (list_any q xs) h)

  -- tests that are alike
  pub any_alike : (q r : X → Bool) (xs : List X) → ((x : X) → q x ≡ r x) → list_any q xs ≡ list_any r xs
  any_alike q r [] same = refl
  any_alike q r (x ∷ xs) same = ap (λ t. t || list_any q xs) (same x) ∙ ap (λ t. r x || t) (any_alike q r xs same)

  -- where each that passes the test passes the other or P holds
  pub any_or : (q r : X → Bool) (P : Type 0) (xs : List X) → ((x : X) → q x ≡ true → (r x ≡ true) ⊎ P) → list_any q xs ≡ true → (list_any r xs ≡ true) ⊎ P
  any_or q r P [] each h = absurd (false≢true h)
  any_or q r P (x ∷ xs) each h = ⊎_elim
      (λ (here : q x ≡ true). ⊎_elim (λ (passes : r x ≡ true). inl (or_left (r x) (list_any r xs) passes)) (λ (p : P). inr p) (each x here))
      (λ (later : list_any q xs ≡ true). ⊎_elim (λ (passes : list_any r xs ≡ true). inl (or_right (r x) (list_any r xs) passes)) (λ (p : P). inr p) (any_or q r P xs each later))
      (or_cases (q x) (list_any q xs) h)

  -- one more that passes no test
  pub any_push : (q : X → Bool) (xs : List X) (x : X) → q x ≡ false → list_any q (xs ++ x ∷ []) ≡ list_any q xs
  any_push q [] x none = ap (λ t. t || false) none
  any_push q (y ∷ xs) x none = ap (λ t. q y || t) (any_push q xs x none)

  -- what a rule gives of one element more
  filter_map-append : {Y : Type 0} (f : X → Option Y) (xs : List X) (x : X) → filter_map f (xs ++ x ∷ []) ≡ filter_map f xs ++ option_to_list (f x)
  filter_map-append f [] x = one (f x)
    where
      one : {Y : Type 0} (r : Option Y) → cons_option r [] ≡ option_to_list r
      one None = refl
      one (Some y) = refl
  filter_map-append f (z ∷ xs) x = ap (cons_option (f z)) (filter_map-append f xs x) ∙ moved (f z) (filter_map f xs) (option_to_list (f x))
    where
      moved : {Y : Type 0} (r : Option Y) (ys zs : List Y) → cons_option r (ys ++ zs) ≡ cons_option r ys ++ zs
      moved None ys zs = refl
      moved (Some y) ys zs = refl

  pub filter_map_more : {Y : Type 0} (f : X → Option Y) (xs : List X) (i : ℕ) (d : X) → i < length xs → filter_map f (take (i + 1) xs) ≡ filter_map f (take i xs) ++ option_to_list (f (get_or xs i d))
  filter_map_more f xs i d inside = ap (filter_map f) (take_more xs i d inside) ∙ filter_map-append f (take i xs) (get_or xs i d)

-- one number of a list that passes the test
pub any_has : (q : ℕ → Bool) (xs : List ℕ) (a : ℕ) → has a xs ≡ true → q a ≡ true → list_any q xs ≡ true
any_has q [] a h passes = absurd (false≢true h)
any_has q (x ∷ xs) a h passes = ⊎_elim
    (λ (same : x ≡ a). or_left (q x) (list_any q xs) (subst (λ k. q k ≡ true) (sym same) passes))
    (λ (later : has a xs ≡ true). or_right (q x) (list_any q xs) (any_has q xs a later passes))
    (has_cases a x xs h)

pub has_any : (q : ℕ → Bool) (xs : List ℕ) → list_any q xs ≡ true → (a : ℕ) × (has a xs ≡ true) × (q a ≡ true)
has_any q [] h = absurd (false≢true h)
has_any q (x ∷ xs) h = ⊎_elim
    (λ (here : q x ≡ true). (x, has_first x xs, here))
    (λ (later : list_any q xs ≡ true). let (a, in_rest, passes) = has_any q xs later in (a, or_right (nat_eq x a) (has a xs) in_rest, passes))
    (or_cases (q x) (list_any q xs) h)
