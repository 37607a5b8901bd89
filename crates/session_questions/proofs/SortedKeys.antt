-- Keys in order are those of the entries of a map that pass a test, where they are the same keys. Serves what is listed in
-- order by a set.
use Rattle.std.proofs.Common.{◌≡◌, ◌∙◌, sym, ap, subst, refl, Bool, true, false, cond, ◌||◌, ◌&&◌, List, [], ◌∷◌, map, Some, None}
use Rattle.std.specs.BTreeMap.{is_at}
use Rattle.std.specs.Cmp.{IsTotalOrder}
use Rattle.std.specs.FinMap.{FinMap, IsAntisymmetric, entries, entries_sorted, find, get, get-entries, is_sorted}
use Rattle.std.specs.FinMap.Entries.{below_all, same_entries}
use Rattle.std.specs.List.{AllByRecursion, list_any}
use Rattle.std.specs.List.Sorted.{IsStrictlySortedBy}
use Rattle.std.specs.Ordering.{eq_by_cmp, is_eq, is_lt}
use Rattle.std.specs.declared.cmp.Ordering.{Ordering}
use Rattle.std.specs.declared.cmp.Ordering.TheVariants.{Less, Equal, Greater}
use Rattle.std.specs.Prelude.{T}
use Rattle.session_questions.specs.internal.Names.{passes}

-- the keys of the entries whose values pass
abbrev pub kept : {K X : Type 0} → (X → Bool) → List (K × X) → List K
kept p [] = []
kept p (e ∷ es) = cond (p e.1) (e.0 ∷ kept p es) (kept p es)

abbrev units : {K : Type 0} → List K → List (K × Unit {0})
units ks = map (λ k. (k, tt)) ks

-- the keys of a list of keys with nothing
units-keys : {K : Type 0} (ks : List K) → map (λ e. e.0) (units ks) ≡ ks
units-keys [] = refl
units-keys (k ∷ ks) = ap (λ r. k ∷ r) (units-keys ks)

is_equal : (o : Ordering) → is_eq o ≡ true → o ≡ Equal
is_equal Less h = cc
is_equal Equal h = refl
is_equal Greater h = cc

is_less : (o : Ordering) → T (is_lt o) → o ≡ Less
is_less Less h = refl
is_less Equal h = absurd h
is_less Greater h = absurd h

both : (a b : Bool) → T a → T b → T (a && b)
both true b p q = q
both false b p q = absurd p

first : (a b : Bool) → T (a && b) → T a
first true b p = tt
first false b p = absurd p

second : (a b : Bool) → T (a && b) → T b
second true b p = p
second false b p = absurd p

module _ {K : Type 0} (R : K → K → Ordering) where
  below : (k : K) (ks : List K) → AllByRecursion (λ y. R k y ≡ Less) ks → T (below_all R k (units ks))
  below k [] h = tt
  below k (x ∷ xs) h = both _ _ (subst (λ r. T (is_lt r)) (sym h.0) tt) (below k xs h.1)

  rises : (ks : List K) → IsStrictlySortedBy R ks → T (is_sorted R (units ks))
  unfolding IsStrictlySortedBy
  rises [] h = tt
  rises (k ∷ ks) h = both _ _ (below k ks h.0) (rises ks h.1)

  has : (q : K) (ks : List K) → find R q (units ks) ≡ cond (list_any (is_at (R q)) ks) (Some tt) None
  has q [] = refl
  has q (k ∷ ks) = go (eq_by_cmp R q k) (has q ks)
    where
      go : (b : Bool) → find R q (units ks) ≡ cond (list_any (is_at (R q)) ks) (Some tt) None → cond b (Some tt) (find R q (units ks)) ≡ cond (b || list_any (is_at (R q)) ks) (Some tt) None
      go true h = refl
      go false h = h

module _ {K X : Type 0} (R : K → K → Ordering) (p : X → Bool) where
  kept-below : (k : K) (es : List (K × X)) → T (below_all R k es) → T (below_all R k (units (kept p es)))
  kept-below k [] h = tt
  kept-below k (e ∷ es) h = go (p e.1) (kept-below k es (second _ _ h))
    where
      go : (b : Bool) → T (below_all R k (units (kept p es))) → T (below_all R k (units (cond b (e.0 ∷ kept p es) (kept p es))))
      go true i = both _ _ (first _ _ h) i
      go false i = i

  kept-rises : (es : List (K × X)) → T (is_sorted R es) → T (is_sorted R (units (kept p es)))
  kept-rises [] h = tt
  kept-rises (e ∷ es) h = go (p e.1) (kept-rises es (second _ _ h))
    where
      go : (b : Bool) → T (is_sorted R (units (kept p es))) → T (is_sorted R (units (cond b (e.0 ∷ kept p es) (kept p es))))
      go true i = both _ _ (kept-below e.0 es (first _ _ h)) i
      go false i = i

  -- a key below all others is none of them
  kept-apart : (k : K) (es : List (K × X)) → T (below_all R k es) → list_any (is_at (R k)) (kept p es) ≡ false
  kept-apart k [] h = refl
  kept-apart k (e ∷ es) h = go (p e.1) (kept-apart k es (second _ _ h))
    where
      go : (b : Bool) → list_any (is_at (R k)) (kept p es) ≡ false → list_any (is_at (R k)) (cond b (e.0 ∷ kept p es) (kept p es)) ≡ false
      go true i = rw (is_less (R k e.0) (first _ _ h)) i
      go false i = i

  kept-has : IsAntisymmetric R → (q : K) (es : List (K × X)) → T (is_sorted R es) → list_any (is_at (R q)) (kept p es) ≡ passes p (find R q es)
  kept-has same q [] h = refl
  kept-has same q (e ∷ es) h = go (eq_by_cmp R q e.0) (p e.1) refl refl (kept-has same q es (second _ _ h))
    where
      go : (b c : Bool) → eq_by_cmp R q e.0 ≡ b → p e.1 ≡ c → list_any (is_at (R q)) (kept p es) ≡ passes p (find R q es)
          → list_any (is_at (R q)) (cond c (e.0 ∷ kept p es) (kept p es)) ≡ passes p (cond b (Some e.1) (find R q es))
      go true true t u i = rw (t, u) refl
      go true false t u i = rw u (subst (λ k. list_any (is_at (R k)) (kept p es) ≡ false) (sym (same q e.0 (is_equal _ t))) (kept-apart e.0 es (first _ _ h)))
      go false true t u i = rw t i
      go false false t u i = i

module _ {K X : Type 0} {R : K → K → Ordering} (o : IsTotalOrder R) (same : IsAntisymmetric R) where
  -- keys in order that are those whose values pass
  pub kept_are : (p : X → Bool) (m : FinMap R X) (ks : List K) → IsStrictlySortedBy R ks → ((q : K) → list_any (is_at (R q)) ks ≡ passes p (get m q)) → kept p (entries m) ≡ ks
  kept_are p m ks up h =
      sym (units-keys (kept p (entries m)))
      ∙ ap (map (λ e. e.0)) (same_entries R o same (units (kept p (entries m))) (units ks) (kept-rises R p (entries m) (entries_sorted m)) (rises R ks up)
      (λ q. has R q (kept p (entries m)) ∙ ap (λ b. cond b (Some tt) None) (kept-has R p same q (entries m) (entries_sorted m) ∙ ap (passes p) (sym (get-entries m q)) ∙ sym (h q)) ∙ sym (has R q ks)))
      ∙ units-keys ks
