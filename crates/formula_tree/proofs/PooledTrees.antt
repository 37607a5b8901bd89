-- The trees of a pool's entries: what is found, what is missing, what is added and what is left. Serves
-- the pool.
use Rattle.std.proofs.Common.{◌≡◌, ◌∙◌, sym, ap, subst, refl, arith, zero, suc, Bool, true, false, cond, List, [], ◌∷◌, ◌++◌, map, inl, inr, ◌⊎◌, Some, filter}
use Rattle.std.proofs.lemmas.Bool.{both_ways, or_cases, or_left, or_right}
use Rattle.std.proofs.lemmas.List.{map-append}
use Rattle.std.proofs.lemmas.List.Elements.{Contains-append_left, Contains-push, Contains-push_cases}
use Rattle.std.proofs.lemmas.Slice.Eq.{bytes_eq-Decides}
use Rattle.std.specs.Bool.{Decides}
use Rattle.std.specs.List.{Contains, IsDistinct, AllByRecursion, find, list_any}
use Rattle.formula_tree.specs.Term.{Term}
use Rattle.formula_tree.specs.Pooled.{AreDistinct, IsPart, no_trees, kept, left_out}
use Rattle.formula_tree.specs.declared.reference.Ref.{Ref}
use Rattle.formula_tree.specs.internal.Code.{code, same_code}
use Rattle.formula_tree.proofs.Decoded.{code-equal}

pub same_code-decides : (t u : Term Ref) → Decides (same_code t u) (t ≡ u)
same_code-decides t u = (
  λ h. code-equal t u ((bytes_eq-Decides (code t []) (code u [])).0 h),
  λ e. (bytes_eq-Decides (code t []) (code u [])).1 (ap (λ v. code v []) e),
)

contains-here : {X : Type 0} (x : X) (xs : List X) → Contains (x ∷ xs) x
contains-here x xs = (0, omega arith, refl)

contains-there : {X : Type 0} (x y : X) (xs : List X) → Contains xs y → Contains (x ∷ xs) y
contains-there x y xs (k, lt, e) = (suc k, omega arith, e)

contains-split : {X : Type 0} (x y : X) (xs : List X) → Contains (x ∷ xs) y → (x ≡ y) ⊎ Contains xs y
contains-split x y xs (zero, lt, e) = inl e
contains-split x y xs (suc k, lt, e) = inr (k, omega arith, e)

-- an equal item stands in front
contains-equal : {X : Type 0} (x y : X) (xs : List X) → x ≡ y → Contains (x ∷ xs) y
contains-equal x y xs e = subst (Contains (x ∷ xs)) e (contains-here x xs)

-- all trees are part of themselves
pub whole : (ts : List (Term Ref)) → IsPart ts ts
whole [] = no_trees
whole (t ∷ ts) = kept (whole ts)

module _ {K : Type 0} (tree : K → Term Ref) where
  -- the trees of the entries
  abbrev pub trees_in : List K → List (Term Ref)
  trees_in ks = map tree ks

  -- whether a tree is that of one of the entries
  abbrev pub is_among : Term Ref → List K → Bool
  is_among t ks = list_any (λ k. same_code t (tree k)) ks

  among-contains : (t : Term Ref) (ks : List K) → is_among t ks ≡ true → Contains (trees_in ks) t
  among-contains t [] h = absurd (cc)
  among-contains t (k ∷ ks) h = elim (or_cases (same_code t (tree k)) (is_among t ks) h) [
    | inl here ↦ contains-equal (tree k) t (trees_in ks) (sym ((same_code-decides t (tree k)).0 here))
    | inr there ↦ contains-there (tree k) t (trees_in ks) (among-contains t ks there)
  ]

  contains-among : (t : Term Ref) (ks : List K) → Contains (trees_in ks) t → is_among t ks ≡ true
  contains-among t [] (n, lt, e) = absurd (omega arith)
  contains-among t (k ∷ ks) c = elim (contains-split (tree k) t (trees_in ks) c) [
    | inl here ↦ or_left (same_code t (tree k)) (is_among t ks) ((same_code-decides t (tree k)).1 (sym here))
    | inr there ↦ or_right (same_code t (tree k)) (is_among t ks) (contains-among t ks there)
  ]

  pub among-decides : (t : Term Ref) (ks : List K) → Decides (is_among t ks) (Contains (trees_in ks) t)
  among-decides t ks = (among-contains t ks, contains-among t ks)

  found-by : (t : Term Ref) (k j : K) (ks : List K) (b : Bool) → same_code t (tree k) ≡ b → (find (λ i. same_code t (tree i)) ks ≡ Some j → t ≡ tree j)
      → cond b (Some k) (find (λ i. same_code t (tree i)) ks) ≡ Some j → t ≡ tree j
  found-by t k j ks true h rest e = let is : k ≡ j = cc in (same_code-decides t (tree k)).0 h ∙ ap tree is
  found-by t k j ks false h rest e = rest e

  -- the tree that is found is equal
  pub found : (t : Term Ref) (ks : List K) (j : K) → find (λ i. same_code t (tree i)) ks ≡ Some j → t ≡ tree j
  found t [] j e = absurd (cc)
  found t (k ∷ ks) j e = found-by t k j ks (same_code t (tree k)) refl (found t ks j) e

  apart : (t : Term Ref) (ks : List K) → AllByRecursion (λ k. same_code t (tree k) ≡ false) ks → Contains (trees_in ks) t → ⊥
  apart t [] d (n, lt, is) = omega arith
  apart t (k ∷ ks) d c = elim (contains-split (tree k) t (trees_in ks) c) [
    | inl here ↦ both_ways (same_code t (tree k)) d.0 ((same_code-decides t (tree k)).1 (sym here))
    | inr there ↦ apart t ks d.1 there
  ]

  -- entries that differ are those of distinct trees
  pub distinct : (ks : List K) → IsDistinct (λ j k. same_code (tree j) (tree k)) ks → AreDistinct (trees_in ks)
  unfolding IsDistinct
  distinct [] d = tt
  distinct (k ∷ ks) d = (apart (tree k) ks d.0, distinct ks d.1)

  -- the trees of the entries and one more
  trees_in-more : (ks : List K) (k : K) → trees_in (ks ++ k ∷ []) ≡ trees_in ks ++ tree k ∷ []
  trees_in-more ks k = map-append tree ks (k ∷ [])

  -- an entry whose tree is none of the others' goes last
  pub grown : (ks new : List K) (k : K) → false ≡ is_among (tree k) ks → new ≡ cond (is_among (tree k) ks) ks (ks ++ k ∷ []) → trees_in new ≡ trees_in ks ++ tree k ∷ []
  grown ks new k none e = ap trees_in (e ∙ ap (λ b. cond b ks (ks ++ k ∷ [])) (sym none)) ∙ trees_in-more ks k

  added-by : (ks : List K) (k : K) (t : Term Ref) (b : Bool) → is_among (tree k) ks ≡ b
      → (Contains (trees_in (cond b ks (ks ++ k ∷ []))) t → Contains (trees_in ks) t ⊎ (tree k ≡ t)) × (Contains (trees_in ks) t ⊎ (tree k ≡ t) → Contains (trees_in (cond b ks (ks ++ k ∷ []))) t)
  added-by ks k t true h = (
    λ c. inl c,
    λ c. elim c [
      | inl old ↦ old
      | inr new ↦ subst (Contains (trees_in ks)) new (among-contains (tree k) ks h)
    ],
  )
  added-by ks k t false h = rw (trees_in-more ks k) (
    Contains-push_cases (trees_in ks) (tree k) t,
    λ c. elim c [
      | inl old ↦ Contains-append_left (trees_in ks) (tree k ∷ []) t old
      | inr new ↦ subst (Contains (trees_in ks ++ tree k ∷ [])) new (Contains-push (trees_in ks) (tree k))
    ],
  )

  -- once an entry is inserted, its tree is one of the entries' too
  added : (ks : List K) (k : K) (t : Term Ref)
      → (Contains (trees_in (cond (is_among (tree k) ks) ks (ks ++ k ∷ []))) t → Contains (trees_in ks) t ⊎ (tree k ≡ t)) × (Contains (trees_in ks) t ⊎ (tree k ≡ t) → Contains (trees_in (cond (is_among (tree k) ks) ks (ks ++ k ∷ []))) t)
  added ks k t = added-by ks k t (is_among (tree k) ks) refl

  -- one entry more is that of one tree more
  pub one-more : (ks new : List K) (k : K) (ts : List (Term Ref)) (t : Term Ref) → new ≡ cond (is_among (tree k) ks) ks (ks ++ k ∷ [])
      → (Contains (trees_in ks) t → Contains ts t) × (Contains ts t → Contains (trees_in ks) t)
      → (Contains (trees_in new) t → Contains (ts ++ tree k ∷ []) t) × (Contains (ts ++ tree k ∷ []) t → Contains (trees_in new) t)
  one-more ks new k ts t e same = rw e (
    λ c. elim ((added ks k t).0 c) [
      | inl old ↦ Contains-append_left ts (tree k ∷ []) t (same.0 old)
      | inr here ↦ subst (Contains (ts ++ tree k ∷ [])) here (Contains-push ts (tree k))
    ],
    λ c. elim (Contains-push_cases ts (tree k) t c) [
      | inl old ↦ (added ks k t).1 (inl (same.1 old))
      | inr here ↦ (added ks k t).1 (inr here)
    ],
  )

  module _ (test : K → Bool) where
    part-by : (b : Bool) (k : K) (ks left : List K) → IsPart (trees_in left) (trees_in ks) → IsPart (trees_in (cond b (k ∷ left) left)) (trees_in (k ∷ ks))
    part-by true k ks left p = kept p
    part-by false k ks left p = left_out p

    -- what a filter leaves is part of what was there
    pub filter-part : (ks : List K) → IsPart (trees_in (filter test ks)) (trees_in ks)
    filter-part [] = no_trees
    filter-part (k ∷ ks) = part-by (test k) k ks (filter test ks) (filter-part ks)

    module _ (P : Term Ref → Type 0) (says : (k : K) → Decides (test k) (P (tree k))) where
      left-by : (b : Bool) (k : K) (ks : List K) (t : Term Ref) → test k ≡ b → (Contains (trees_in (filter test ks)) t → Contains (trees_in ks) t × P t)
          → Contains (trees_in (cond b (k ∷ filter test ks) (filter test ks))) t → Contains (trees_in (k ∷ ks)) t × P t
      left-by true k ks t h rest c = elim (contains-split (tree k) t (trees_in (filter test ks)) c) [
        | inl here ↦ (contains-equal (tree k) t (trees_in ks) here, subst P here ((says k).0 h))
        | inr there ↦ (contains-there (tree k) t (trees_in ks) (rest there).0, (rest there).1)
      ]
      left-by false k ks t h rest c = (contains-there (tree k) t (trees_in ks) (rest c).0, (rest c).1)

      -- a tree that a filter leaves was there, and passes
      pub left-passes : (ks : List K) (t : Term Ref) → Contains (trees_in (filter test ks)) t → Contains (trees_in ks) t × P t
      left-passes [] t (n, lt, e) = absurd (omega arith)
      left-passes (k ∷ ks) t c = left-by (test k) k ks t refl (left-passes ks t) c

      stays-by : (b : Bool) (k : K) (ks : List K) (t : Term Ref) → test k ≡ b → P t → (Contains (trees_in ks) t → Contains (trees_in (filter test ks)) t)
          → (tree k ≡ t) ⊎ Contains (trees_in ks) t → Contains (trees_in (cond b (k ∷ filter test ks) (filter test ks))) t
      stays-by true k ks t h p rest (inl here) = contains-equal (tree k) t (trees_in (filter test ks)) here
      stays-by true k ks t h p rest (inr there) = contains-there (tree k) t (trees_in (filter test ks)) (rest there)
      stays-by false k ks t h p rest (inl here) = absurd (both_ways (test k) h ((says k).1 (subst P (sym here) p)))
      stays-by false k ks t h p rest (inr there) = rest there

      -- a tree that was there and passes is left
      pub passes-left : (ks : List K) (t : Term Ref) → Contains (trees_in ks) t → P t → Contains (trees_in (filter test ks)) t
      passes-left [] t (n, lt, e) p = absurd (omega arith)
      passes-left (k ∷ ks) t c p = stays-by (test k) k ks t refl p (λ d. passes-left ks t d p) (contains-split (tree k) t (trees_in ks) c)
