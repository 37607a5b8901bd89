-- The map that kept cells stand for: what it has at a place, and changes at one place. Serves the calls of a grid.
use Rattle.std.proofs.Common.{◌≡◌, ◌∙◌, sym, ap, refl, subst, ◌↔◌, Bool, true, false, cond, List, [], ◌∷◌, length, Option, Some, None, option_map, option_and_then, IsSome, is_some, filter_map, Result, Ok, Err, OnOk, OnErr, suc, ◌+◌, arith}
use Rattle.std.specs.declared.cmp.Ordering.TheVariants.{Less}
use Rattle.std.specs.List.Sorted.{IsStrictlySortedBy}
use Rattle.std.specs.BTreeMap.{is_at}
use Rattle.std.specs.FinMap.{find, get, insert, remove, from_entries, get-from_entries, get-insert, get-remove, same_map, contains_key, len, len-insert, len-empty}
use Rattle.std.specs.List.{AllByRecursion, cons_option}
use Rattle.std.specs.Map.{lookup, keys_of}
use Rattle.std.specs.Ordering.{eq_by_cmp, is_eq}
use Rattle.std.proofs.lemmas.Option.{same_Some}
use Rattle.cell_addr.specs.Order.{place_cmp}
use Rattle.cell_addr.specs.declared.place.Place.{Place}
use Rattle.cell_addr.proofs.Entries.{lookup-find}
use Rattle.cell_addr.proofs.Places.{place_cmp-IsTotalOrder, place_cmp-IsAntisymmetric}
use Rattle.shift_core.specs.Maps.{PlaceMap}
use Rattle.shift_core.proofs.CarriedEntries.{eq_by_cmp-decides, find-carried, find-carried_nowhere, same_test}
use Rattle.stable_lines.specs.declared.sheets.SheetLines.{SheetLines}
use Rattle.grid_store.specs.Grid.{placed}
use Rattle.grid_store.specs.Keys.{key_at, key_cmp, place_at}
use Rattle.grid_store.specs.declared.key.CellKey.{CellKey}
use Rattle.grid_store.proofs.KeyOrder.{key_cmp-IsTotalOrder, key_cmp-IsAntisymmetric}
use Rattle.grid_store.proofs.KeyPlaces.{place_of_key, key_of_place}

-- what is kept under a key
abbrev pub kept : {X : Type 0} → List (CellKey × X) → CellKey → Option X
kept es k = lookup (is_at (key_cmp k)) es

-- what is kept at a place, by its key
abbrev pub kept_at : {X : Type 0} → SheetLines → SheetLines → List (CellKey × X) → Place → Option X
kept_at rows cols es p = option_and_then (kept es) (key_at rows cols p)

-- the map that kept cells stand for
abbrev pub seen : {X : Type 0} → SheetLines → SheetLines → List (CellKey × X) → PlaceMap X
seen rows cols es = from_entries (filter_map (placed rows cols) es)

each_key : {X : Type 0} (P : CellKey → Type 0) (es : List (CellKey × X)) → ((k : CellKey) → P k) → AllByRecursion (λ e. P e.0) es
each_key P [] h = tt
each_key P (e ∷ es) h = (h e.0, each_key P es h)

-- no key that rises from a key is that key
pub above_none : {X : Type 0} (k : CellKey) (es : List (CellKey × X)) → AllByRecursion (λ x. key_cmp k x ≡ Less) (keys_of es) → kept es k ≡ None
above_none k [] h = refl
above_none k (e ∷ es) h = ap (λ o. cond (is_eq o) (Some e.1) (kept es k)) h.0 ∙ above_none k es h.1

module _ (rows cols : SheetLines) where
  found : {X : Type 0} (es : List (CellKey × X)) (p : Place) (r : Option CellKey) → key_at rows cols p ≡ r → find place_cmp p (filter_map (placed rows cols) es) ≡ option_and_then (kept es) r
  found es p None e =
      find-carried_nowhere place_cmp-IsTotalOrder place_cmp-IsAntisymmetric (place_at rows cols) p es
      (each_key (λ k. place_at rows cols k ≡ Some p → ⊥) es (λ k h. let there = key_of_place rows cols k p h in cc))
  found es p (Some k) e =
      find-carried key_cmp-IsTotalOrder key_cmp-IsAntisymmetric place_cmp-IsTotalOrder place_cmp-IsAntisymmetric (place_at rows cols) p k es
      (each_key (λ x. (place_at rows cols x ≡ Some p) ↔ (k ≡ x)) es (λ x. (
        λ h. same_Some k x (sym e ∙ key_of_place rows cols x p h),
        λ same. subst (λ z. place_at rows cols z ≡ Some p) same (place_of_key rows cols p k e),
      )))
      ∙ sym (lookup-find key_cmp k es)

  pub get-seen : {X : Type 0} (es : List (CellKey × X)) (p : Place) → get (seen rows cols es) p ≡ kept_at rows cols es p
  get-seen es p = get-from_entries place_cmp-IsTotalOrder (filter_map (placed rows cols) es) p ∙ found es p (key_at rows cols p) refl

  pub get-seen_at : {X : Type 0} (es : List (CellKey × X)) (p : Place) (k : CellKey) → key_at rows cols p ≡ Some k → get (seen rows cols es) p ≡ kept es k
  get-seen_at es p k e = get-seen es p ∙ ap (option_and_then (kept es)) e

  some_kept : {X : Type 0} (es : List (CellKey × X)) (p : Place) (r : Option CellKey) → key_at rows cols p ≡ r → IsSome (option_and_then (kept es) r) → (k : CellKey) × (key_at rows cols p ≡ Some k) × IsSome (kept es k)
  some_kept es p None e some = cc
  some_kept es p (Some k) e some = (k, e, some)

  -- the key of a filled place
  pub key_of_seen : {X : Type 0} (es : List (CellKey × X)) (p : Place) → IsSome (get (seen rows cols es) p) → (k : CellKey) × (key_at rows cols p ≡ Some k) × IsSome (kept es k)
  key_of_seen es p some = some_kept es p (key_at rows cols p) refl (subst IsSome (get-seen es p) some)

  -- the key of another place is another key
  same_keys : (p at : Place) (k key : CellKey) → key_at rows cols p ≡ Some k → key_at rows cols at ≡ Some key → is_at (key_cmp key) k ≡ eq_by_cmp place_cmp p at
  same_keys p at k key e f =
      same_test (is_at (key_cmp key) k) (eq_by_cmp place_cmp p at) (eq_by_cmp-decides key_cmp-IsTotalOrder key_cmp-IsAntisymmetric key k) (eq_by_cmp-decides place_cmp-IsTotalOrder place_cmp-IsAntisymmetric p at) (
        λ same. same_Some p at (sym (place_of_key rows cols p k e) ∙ ap (place_at rows cols) (sym same) ∙ place_of_key rows cols at key f),
        λ same. same_Some key k (sym f ∙ ap (key_at rows cols) (sym same) ∙ e),
      )

  changed_by : {X : Type 0} (es fs : List (CellKey × X)) (at : Place) (key : CellKey) (change : Option X) → key_at rows cols at ≡ Some key
      → ((k : CellKey) → kept fs k ≡ cond (is_at (key_cmp key) k) change (kept es k))
      → (p : Place) (r : Option CellKey) → key_at rows cols p ≡ r → option_and_then (kept fs) r ≡ cond (eq_by_cmp place_cmp p at) change (option_and_then (kept es) r)
  changed_by es fs at key change f h p None e =
      let apart : eq_by_cmp place_cmp p at ≡ false =
      same_test (eq_by_cmp place_cmp p at) false (eq_by_cmp-decides place_cmp-IsTotalOrder place_cmp-IsAntisymmetric p at) ((λ b. cc), (λ b. absurd b))
      ((λ same. let there = sym e ∙ ap (key_at rows cols) same ∙ f in cc), (λ b. absurd b)) in
      rw apart refl
  changed_by es fs at key change f h p (Some k) e = h k ∙ ap (λ b. cond b change (kept es k)) (same_keys p at k key e f)

  pub seen-insert : {X : Type 0} (es fs : List (CellKey × X)) (at : Place) (key : CellKey) (cell : X) → key_at rows cols at ≡ Some key
      → ((k : CellKey) → kept fs k ≡ cond (is_at (key_cmp key) k) (Some cell) (kept es k)) → seen rows cols fs ≡ insert (seen rows cols es) at cell
  seen-insert es fs at key cell f h = same_map place_cmp-IsTotalOrder place_cmp-IsAntisymmetric _ _ (λ p.
      get-seen fs p ∙ changed_by es fs at key (Some cell) f h p (key_at rows cols p) refl
      ∙ ap (λ r. cond (eq_by_cmp place_cmp p at) (Some cell) r) (sym (get-seen es p)) ∙ sym (get-insert place_cmp-IsTotalOrder (seen rows cols es) at cell p))

  pub seen-remove : {X : Type 0} (es fs : List (CellKey × X)) (at : Place) (key : CellKey) → key_at rows cols at ≡ Some key
      → ((k : CellKey) → kept fs k ≡ cond (is_at (key_cmp key) k) None (kept es k)) → seen rows cols fs ≡ remove (seen rows cols es) at
  seen-remove es fs at key f h = same_map place_cmp-IsTotalOrder place_cmp-IsAntisymmetric _ _ (λ p.
      get-seen fs p ∙ changed_by es fs at key None f h p (key_at rows cols p) refl
      ∙ ap (λ r. cond (eq_by_cmp place_cmp p at) None r) (sym (get-seen es p)) ∙ sym (get-remove place_cmp-IsTotalOrder (seen rows cols es) at p))

  absent_or : {X : Type 0} (b : Bool) (r : Option X) → (b ≡ true → r ≡ None) → r ≡ cond b None r
  absent_or true r h = h refl
  absent_or false r h = refl

  -- to take out what isn't there changes nothing
  pub remove-absent : {X : Type 0} (es : List (CellKey × X)) (at : Place) → key_at rows cols at ≡ None → seen rows cols es ≡ remove (seen rows cols es) at
  remove-absent es at none = same_map place_cmp-IsTotalOrder place_cmp-IsAntisymmetric _ _ (λ p.
      absent_or (eq_by_cmp place_cmp p at) (get (seen rows cols es) p) (λ here.
      ap (get (seen rows cols es)) ((eq_by_cmp-decides place_cmp-IsTotalOrder place_cmp-IsAntisymmetric p at).0 here) ∙ get-seen es at ∙ ap (option_and_then (kept es)) none)
      ∙ sym (get-remove place_cmp-IsTotalOrder (seen rows cols es) at p))

  stands_or : {X : Type 0} (key k : CellKey) (b : Bool) (change old : Option X) → is_at (key_cmp key) k ≡ b → (IsSome change → IsSome (place_at rows cols key)) → (IsSome old → IsSome (place_at rows cols k))
      → IsSome (cond b change old) → IsSome (place_at rows cols k)
  stands_or key k true change old e here stands some =
      subst (λ z. IsSome (place_at rows cols z)) ((eq_by_cmp-decides key_cmp-IsTotalOrder key_cmp-IsAntisymmetric key k).0 e) (here some)
  stands_or key k false change old e here stands some = stands some

  -- each key stands at a place after a change at one that does
  pub standing_after : {X : Type 0} (es fs : List (CellKey × X)) (key : CellKey) (change : Option X) → ((k : CellKey) → kept fs k ≡ cond (is_at (key_cmp key) k) change (kept es k))
      → (IsSome change → IsSome (place_at rows cols key)) → ((k : CellKey) → IsSome (kept es k) → IsSome (place_at rows cols k)) → (k : CellKey) → IsSome (kept fs k) → IsSome (place_at rows cols k)
  standing_after es fs key change h here stands k some = stands_or key k (is_at (key_cmp key) k) change (kept es k) refl here (stands k) (subst IsSome (h k) some)

  -- each key stands where an insertion went well, and where it didn't
  pub standing_inserted : {X : Type 0} {A B : Type 0} (r : Result A B) (es fs : List (CellKey × X)) (at : Place) (key : CellKey) (cell : X) → key_at rows cols at ≡ Some key
      → OnOk r ((k : CellKey) → kept fs k ≡ cond (is_at (key_cmp key) k) (Some cell) (kept es k)) → OnErr r (fs ≡ es)
      → ((k : CellKey) → IsSome (kept es k) → IsSome (place_at rows cols k)) → (k : CellKey) → IsSome (kept fs k) → IsSome (place_at rows cols k)
  standing_inserted (Ok x) es fs at key cell f ok err stands =
      standing_after es fs key (Some cell) ok (λ h. ap is_some (place_of_key rows cols at key f)) stands
  standing_inserted (Err y) es fs at key cell f ok err stands = λ k some. stands k (subst (λ z. IsSome (kept z k)) err some)

  found_later : {X : Type 0} (k : CellKey) (e : CellKey × X) (b : Bool) (r : Option X) → IsSome r → IsSome (cond b (Some e.1) r)
  found_later k e true r h = refl
  found_later k e false r h = h

  here : {X : Type 0} (e : CellKey × X) (es : List (CellKey × X)) → IsSome (kept (e ∷ es) e.0)
  here e es = ap (λ b. is_some (cond b (Some e.1) (kept es e.0))) ((eq_by_cmp-decides key_cmp-IsTotalOrder key_cmp-IsAntisymmetric e.0 e.0).1 refl)

  one_more : {X : Type 0} (e : CellKey × X) (es : List (CellKey × X)) (r : Option Place) → place_at rows cols e.0 ≡ r → IsSome r → kept es e.0 ≡ None → len (seen rows cols es) ≡ length es
      → len (from_entries {R = place_cmp} (cons_option (option_map (λ p. (p, e.1)) r) (filter_map (placed rows cols) es))) ≡ suc (length es)
  one_more e es None f some none h = cc
  one_more e es (Some p) f some none h =
      let new : contains_key (seen rows cols es) p ≡ false = ap is_some (get-seen_at es p e.0 (key_of_place rows cols e.0 p f) ∙ none) in
      len-insert place_cmp-IsTotalOrder (seen rows cols es) p e.1 ∙ ap (λ b. cond b (len (seen rows cols es)) (len (seen rows cols es) + 1)) new ∙ omega (arith, h)

  -- as many cells are seen as are kept
  pub len-seen : {X : Type 0} (es : List (CellKey × X)) → IsStrictlySortedBy key_cmp (keys_of es) → ((k : CellKey) → IsSome (kept es k) → IsSome (place_at rows cols k)) → len (seen rows cols es) ≡ length es
  unfolding IsStrictlySortedBy
  len-seen [] h stands = len-empty place_cmp _
  len-seen (e ∷ es) h stands =
      one_more e es (place_at rows cols e.0) refl (stands e.0 (here e es)) (above_none e.0 es h.0)
      (len-seen es h.1 (λ k some. stands k (found_later k e (is_at (key_cmp k) e.0) (kept es k) some)))
