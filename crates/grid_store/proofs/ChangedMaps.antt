-- Maps with changes over them, by what they have at each place. Serves drafts.
use Rattle.std.proofs.Common.{◌≡◌, ◌∙◌, sym, ap, refl, subst, inl, inr, Bool, true, false, cond, List, [], ◌∷◌, Option, Some, None, option_and_then, IsSome, unwrap_or}
use Rattle.std.specs.FinMap as fin
use Rattle.std.specs.FinMap.{entries, get, get-entries, get-insert, get-remove}
use Rattle.std.specs.Ordering.{eq_by_cmp}
use Rattle.cell_addr.specs.Order.{place_cmp}
use Rattle.cell_addr.specs.Place.{IsInside}
use Rattle.cell_addr.specs.declared.place.Place.{Place}
use Rattle.cell_addr.proofs.Places.{place_cmp-IsTotalOrder, place_cmp-IsAntisymmetric}
use Rattle.shift_core.specs.Maps.{AreInside, PlaceMap}
use Rattle.shift_core.specs.Sound.{IsSoundForm}
use Rattle.shift_core.specs.declared.form.Form.{Form}
use Rattle.shift_core.proofs.CarriedEntries.{eq_by_cmp-decides}
use Rattle.shift_core.proofs.MovedMaps.{find_place}
use Rattle.grid_store.specs.Draft.{with_change, with_changes}
use Rattle.grid_store.specs.declared.way.Going.{Going}
use Rattle.grid_store.specs.internal.Ways.{carried_map, form_goes, turned}
use Rattle.grid_store.proofs.CarriedCells.{inside_or_not}
use Rattle.grid_store.proofs.Carries.{get-carried, get-carried_outside}
use Rattle.grid_store.proofs.PlaceMaps.{same_places}

pub get-with_change : {X : Type 0} (p : Place) (change : Option X) (m : PlaceMap X) (q : Place) → get (with_change p change m) q ≡ cond (eq_by_cmp place_cmp q p) change (get m q)
get-with_change p None m q = get-remove place_cmp-IsTotalOrder m p q
get-with_change p (Some x) m q = get-insert place_cmp-IsTotalOrder m p x q

unwrapped : {X : Type 0} (b : Bool) (change : Option X) (r : Option (Option X)) (s : Option X) → cond b change (unwrap_or r s) ≡ unwrap_or (cond b (Some change) r) s
unwrapped true change r s = refl
unwrapped false change r s = refl

get-with_changes : {X : Type 0} (es : List (Place × Option X)) (m : PlaceMap X) (q : Place) → get (with_changes es m) q ≡ unwrap_or (find_place q es) (get m q)
get-with_changes [] m q = refl
get-with_changes (e ∷ es) m q =
    get-with_change e.0 e.1 (with_changes es m) q ∙ ap (cond (eq_by_cmp place_cmp q e.0) e.1) (get-with_changes es m q)
    ∙ unwrapped (eq_by_cmp place_cmp q e.0) e.1 (find_place q es) (get m q)

-- what a map has at a place with changes over it
pub get-changed : {X : Type 0} (c : PlaceMap (Option X)) (m : PlaceMap X) (q : Place) → get (with_changes (entries c) m) q ≡ unwrap_or (get c q) (get m q)
get-changed c m q = get-with_changes (entries c) m q ∙ ap (λ r. unwrap_or r (get m q)) (sym (get-entries c q))

-- one more change
pub one-change : {X : Type 0} (c new : PlaceMap (Option X)) (m : PlaceMap X) (at : Place) (change : Option X) → new ≡ fin.insert c at change
    → with_changes (entries new) m ≡ with_change at change (with_changes (entries c) m)
one-change c new m at change e = same_places _ _ (λ q.
    get-changed new m q ∙ ap (λ z. unwrap_or (get z q) (get m q)) e ∙ ap (λ r. unwrap_or r (get m q)) (get-insert place_cmp-IsTotalOrder c at change q)
    ∙ sym (unwrapped (eq_by_cmp place_cmp q at) change (get c q) (get m q)) ∙ ap (cond (eq_by_cmp place_cmp q at) change) (sym (get-changed c m q))
    ∙ sym (get-with_change at change (with_changes (entries c) m) q))

some_of : {X : Type 0} (P : Type 0) (r : Option (Option X)) (s : Option X) → (IsSome r → P) → (IsSome s → P) → IsSome (unwrap_or r s) → P
some_of P None s f g some = g some
some_of P (Some change) s f g some = f refl

-- only places of the sheet are seen, where no others are changed
pub changed_inside : {X : Type 0} (c : PlaceMap (Option X)) (m : PlaceMap X) → AreInside c → AreInside m → AreInside (with_changes (entries c) m)
changed_inside c m of_c of_m p some = some_of (IsInside p) (get c p) (get m p) (of_c p) (of_m p) (subst IsSome (get-changed c m p) some)

absent_or : {X : Type 0} (b : Bool) (r : Option X) → (b ≡ true → r ≡ None) → cond b None r ≡ r
absent_or true r h = sym (h refl)
absent_or false r h = refl

nothing : {X : Type 0} (r : Option X) → (IsSome r → ⊥) → r ≡ None
nothing None never = refl
nothing (Some x) never = absurd (never refl)

-- to empty a place past the sheet changes nothing
pub outside-emptied : {X : Type 0} (m : PlaceMap X) (at : Place) → AreInside m → (IsInside at → ⊥) → fin.remove m at ≡ m
outside-emptied m at all out = same_places _ _ (λ q.
    get-remove place_cmp-IsTotalOrder m at q
    ∙ absent_or (eq_by_cmp place_cmp q at) (get m q) (λ here.
    nothing (get m q) (λ some. out (subst IsInside ((eq_by_cmp-decides place_cmp-IsTotalOrder place_cmp-IsAntisymmetric q at).0 here) (all q some)))))

-- changes are carried along with what they are made of
module _ {X : Type 0} (w : Going) (f : Form) (sound : IsSoundForm f) (c : PlaceMap (Option X)) (m : PlaceMap X) (of_c : AreInside c) (of_m : AreInside m) where
  by_origin : (r : Option Place) → unwrap_or (option_and_then (get c) r) (option_and_then (get m) r) ≡ option_and_then (get (with_changes (entries c) m)) r
  by_origin None = refl
  by_origin (Some p) = sym (get-changed c m p)

  pub changes-carried : with_changes (entries (carried_map (form_goes w f) c)) (carried_map (form_goes w f) m) ≡ carried_map (form_goes w f) (with_changes (entries c) m)
  changes-carried = same_places _ _ (λ q. get-changed (carried_map (form_goes w f) c) (carried_map (form_goes w f) m) q ∙ elim (inside_or_not q) [
    | inl i ↦
        (λ j. unwrap_or (get-carried w f sound c of_c q (form_goes (turned w) f q) i refl j) (get-carried w f sound m of_m q (form_goes (turned w) f q) i refl j))
        ∙ by_origin (form_goes (turned w) f q)
        ∙ sym (get-carried w f sound (with_changes (entries c) m) (changed_inside c m of_c of_m) q (form_goes (turned w) f q) i refl)
    | inr out ↦
        (λ j. unwrap_or (get-carried_outside w f sound c of_c q out j) (get-carried_outside w f sound m of_m q out j))
        ∙ sym (get-carried_outside w f sound (with_changes (entries c) m) (changed_inside c m of_c of_m) q out)
  ])
