-- How many entries finite maps have. Serves the limit on filled cells.
use Rattle.std.proofs.Common.{◌≡◌, ◌∙◌, sym, ap, refl, arith, ℕ, suc, ◌≤◌, ◌+◌, ◌-◌, Bool, true, false, cond, length, List, [], ◌∷◌, map, Option, Some, None}
use Rattle.std.specs.List.{filter_map, cons_option}
use Rattle.std.specs.declared.cmp.Ordering.{Ordering}
use Rattle.std.specs.Ordering.{eq_by_cmp}
use Rattle.std.specs.Cmp.{IsTotalOrder}
use Rattle.std.specs.FinMap.{FinMap, find, IsAntisymmetric, from_entries, empty, entries, get, remove, retain_keys, len, contains_key, same_map, get-empty, get-entries, get-remove, get-retain_keys, len-empty, len-insert, len-remove, len-entries}

one-more : (b : Bool) (n m : ℕ) → n ≤ m → cond b n (n + 1) ≤ suc m
one-more true n m h = omega arith
one-more false n m h = omega arith

one-less : (b : Bool) (n r m : ℕ) → r ≡ cond b (n - 1) n → r ≤ m → n ≤ suc m
one-less true n r m e h = omega arith
one-less false n r m e h = omega arith

removed : {X Y : Type 0} (b : Bool) (f : Option Y) (y : Y) (g : Option X) → f ≡ None → (cond b (Some y) f ≡ None → g ≡ None) → cond b None g ≡ None
removed true f y g none h = refl
removed false f y g none h = h none

module _ {K X : Type 0} {R : K → K → Ordering} (o : IsTotalOrder R) where
  -- a map that is made of entries has at most as many
  pub len-from_entries : (es : List (K × X)) → len (from_entries {R = R} es) ≤ length es
  len-from_entries [] = let e = len-empty R X in omega (arith, e)
  len-from_entries (e ∷ es) =
      let h = one-more (contains_key (from_entries {R = R} es) e.0) (len (from_entries {R = R} es)) (length es) (len-from_entries es) in
      let i = len-insert o (from_entries {R = R} es) e.0 e.1 in
      omega (arith, h, i)

module _ {K X Y : Type 0} {R : K → K → Ordering} (o : IsTotalOrder R) (same : IsAntisymmetric R) where
  -- a map whose keys stand among those of a list has at most as many entries
  pub len-part : (es : List (K × Y)) (m : FinMap R X) → ((q : K) → find R q es ≡ None → get m q ≡ None) → len m ≤ length es
  len-part [] m h =
      let none : m ≡ empty = same_map o same m empty (λ q. h q refl ∙ sym (get-empty R q)) in
      let e : len m ≡ 0 = ap len none ∙ len-empty R X in
      omega (arith, e)
  len-part (e ∷ es) m h =
      one-less (contains_key m e.0) (len m) (len (remove m e.0)) (length es) (len-remove o m e.0)
      (len-part es (remove m e.0) (λ q none. get-remove o m e.0 q ∙ removed (eq_by_cmp R q e.0) (find R q es) e.1 (get m q) none (h q)))

none-kept : {X : Type 0} (b : Bool) (g : Option X) → g ≡ None → cond b g None ≡ None
none-kept true g e = e
none-kept false g e = refl

module _ {K X : Type 0} {R : K → K → Ordering} (o : IsTotalOrder R) (same : IsAntisymmetric R) where
  -- so has the part of a map whose keys pass a test
  pub len-retain_keys : (m : FinMap R X) (p : K → Bool) → len (retain_keys m p) ≤ len m
  len-retain_keys m p =
      let h = len-part o same (entries m) (retain_keys m p) (λ q none.
      get-retain_keys m p q (λ x t. ap p (sym (same q x t))) ∙ none-kept (p q) (get m q) (get-entries m q ∙ none)) in
      let l = len-entries m in
      omega (arith, h, l)

some-less : {X : Type 0} (r : Option X) (xs : List X) (n : ℕ) → length xs ≤ n → length (cons_option r xs) ≤ suc n
some-less None xs n h = omega arith
some-less (Some x) xs n h = omega arith

-- a list has at most as many items after some of them are taken out
pub length-filter_map : {X Y : Type 0} (h : X → Option Y) (xs : List X) → length (filter_map h xs) ≤ length xs
length-filter_map h [] = omega arith
length-filter_map h (x ∷ xs) = some-less (h x) (filter_map h xs) (length xs) (length-filter_map h xs)

pub length-map : {X Y : Type 0} (h : X → Y) (xs : List X) → length (map h xs) ≡ length xs
length-map h [] = refl
length-map h (x ∷ xs) = ap suc (length-map h xs)
