-- Maps whose keys are written in another way. Serves the names as links show them.
use Rattle.std.proofs.Common.{◌≡◌, ◌∙◌, sym, ap, refl, Bool, true, false, cond, ◌&&◌, List, [], ◌∷◌, map, Option, Some, None}
use Rattle.std.specs.Cmp.{IsTotalOrder, both_ways, on_total}
use Rattle.std.specs.FinMap.{entries, entries-insert, find, from_entries}
use Rattle.std.specs.FinMap.Entries.{by_order, put}
use Rattle.std.specs.List.{AllByRecursion}
use Rattle.std.specs.Ordering.{eq_by_cmp}
use Rattle.std.specs.declared.cmp.Ordering.{Ordering}
use Rattle.std.specs.declared.cmp.Ordering.TheVariants.{Less, Equal, Greater}
use Rattle.std.proofs.lemmas.Bool.{and_parts}
use Rattle.cell_addr.proofs.Entries.{entries-empty}

-- the order ties equal keys alone
abbrev pub Decides : {K : Type 0} → (K → K → Ordering) → Type 0
Decides {K} R = (x y : K) → (eq_by_cmp R x y ≡ true → x ≡ y) × (x ≡ y → eq_by_cmp R x y ≡ true)

module _ {K L X : Type 0} (S : L → L → Ordering) (raise : K → L) where
  -- entries under keys that are written in another way
  abbrev pub raised : List (K × X) → List (L × X)
  raised es = map (λ e. (raise e.0, e.1)) es

  put-raised : (k : K) (v : X) (es : List (K × X)) → raised (put (λ a b. S (raise a) (raise b)) k v es) ≡ put S (raise k) v (raised es)
  put-raised k v [] = refl
  put-raised k v (e ∷ es) = go (S (raise k) (raise e.0)) (put-raised k v es)
    where
      go : (o : Ordering) → raised (put (λ a b. S (raise a) (raise b)) k v es) ≡ put S (raise k) v (raised es)
          → raised (by_order o ((k, v) ∷ e ∷ es) ((e.0, v) ∷ es) (e ∷ put (λ a b. S (raise a) (raise b)) k v es))
          ≡ by_order o ((raise k, v) ∷ (raise e.0, e.1) ∷ raised es) ((raise e.0, v) ∷ raised es) ((raise e.0, e.1) ∷ put S (raise k) v (raised es))
      go Less h = refl
      go Equal h = refl
      go Greater h = ap (λ r. (raise e.0, e.1) ∷ r) h

module _ {K L X : Type 0} {S : L → L → Ordering} (o : IsTotalOrder S) (raise : K → L) where
  -- a map by the order of keys as they are written is the map of the written keys
  pub entries-raised : (es : List (K × X)) → raised S raise (entries (from_entries {R = λ a b. S (raise a) (raise b)} es)) ≡ entries (from_entries {R = S} (raised S raise es))
  entries-raised [] = ap (raised S raise) (entries-empty (λ a b. S (raise a) (raise b)) X) ∙ sym (entries-empty S X)
  entries-raised (e ∷ es) =
      ap (raised S raise) (entries-insert (on_total raise o) (from_entries es) e.0 e.1)
      ∙ put-raised S raise e.0 e.1 (entries (from_entries {R = λ a b. S (raise a) (raise b)} es))
      ∙ ap (put S (raise e.0) e.1) (entries-raised es)
      ∙ sym (entries-insert o (from_entries (raised S raise es)) (raise e.0) e.1)

module _ {K L : Type 0} (R : K → K → Ordering) (S : L → L → Ordering) (keys : Decides R) (written : Decides S) (raise : K → L) (lower : L → K) where
  -- a key that is found again from how it is written
  abbrev pub IsLow : K → Type 0
  IsLow k = lower (raise k) ≡ k

  -- something is how a key is written
  abbrev pub is_raised : L → Bool
  is_raised q = eq_by_cmp S q (raise (lower q))

  pub tests-part : (q : L) (k : K) → IsLow k → eq_by_cmp S q (raise k) ≡ (is_raised q && eq_by_cmp R (lower q) k)
  tests-part q k low = both_ways (eq_by_cmp S q (raise k)) (is_raised q && eq_by_cmp R (lower q) k) there back
    where
      there : eq_by_cmp S q (raise k) ≡ true → (is_raised q && eq_by_cmp R (lower q) k) ≡ true
      there h =
          let is = (written q (raise k)).0 h in
          let key : lower q ≡ k = ap lower is ∙ low in
          let up : is_raised q ≡ true = (written q (raise (lower q))).1 (is ∙ ap raise (sym key)) in
          rw up ((keys (lower q) k).1 key)

      back : (is_raised q && eq_by_cmp R (lower q) k) ≡ true → eq_by_cmp S q (raise k) ≡ true
      back h =
          let parts = and_parts (is_raised q) (eq_by_cmp R (lower q) k) h in
          (written q (raise k)).1 ((written q (raise (lower q))).0 parts.0 ∙ ap raise ((keys (lower q) k).0 parts.1))

  pub find-raised : {X : Type 0} (q : L) (es : List (K × X)) → AllByRecursion (λ e. IsLow e.0) es → find S q (raised S raise es) ≡ cond (is_raised q) (find R (lower q) es) None
  find-raised {X = X} q [] low = go (is_raised q)
    where
      go : (b : Bool) → ◌≡◌ {A = Option X} None (cond b None None)
      go true = refl
      go false = refl
  find-raised {X = X} q (e ∷ es) low = (λ i. cond (tests-part q e.0 low.0 i) (Some e.1) (find-raised q es low.1 i)) ∙ go (is_raised q) (eq_by_cmp R (lower q) e.0)
    where
      go : (b c : Bool) → cond (b && c) (Some e.1) (cond b (find R (lower q) es) None) ≡ cond b (cond c (Some e.1) (find R (lower q) es)) None
      go true c = refl
      go false c = refl

module _ {K X : Type 0} (R : K → K → Ordering) (P : K → Type 0) where
  here : (e : K × X) (es : List (K × X)) → eq_by_cmp R e.0 e.0 ≡ true → ((q : K) (x : X) → find R q (e ∷ es) ≡ Some x → P q) → P e.0
  here e es self h = h e.0 e.1 (rw self refl)

  -- what holds of each key that is found holds of all keys
  pub all_found : ((k : K) → eq_by_cmp R k k ≡ true) → (es : List (K × X)) → ((q : K) (x : X) → find R q es ≡ Some x → P q) → AllByRecursion (λ e. P e.0) es
  all_found self [] h = tt
  all_found self (e ∷ es) h = (here e es (self e.0) h, all_found self es (λ q x is. later q x (eq_by_cmp R q e.0) refl is))
    where
      later : (q : K) (x : X) (b : Bool) → eq_by_cmp R q e.0 ≡ b → find R q es ≡ Some x → P q
      later q x true t is = h q e.1 (rw t refl)
      later q x false t is = h q x (rw t is)
