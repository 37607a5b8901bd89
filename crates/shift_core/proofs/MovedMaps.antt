-- The laws on moved maps: what they have at a place, that they stay on the sheet, and that the lost entries restore them.
use Rattle.std.proofs.Common.{◌≡◌, ◌∙◌, sym, ap, refl, subst, ◌↔◌, Bool, true, false, cond, List, [], ◌∷◌, ◌++◌, Option, Some, None, option_and_then, IsSome, is_none, filter_map}
use Rattle.std.specs.List.{AllByRecursion}
use Rattle.std.specs.Ordering.{eq_by_cmp}
use Rattle.std.specs.FinMap.{find, entries, get, get-entries, get-from_entries, same_map}
use Rattle.std.specs.FinMap.Entries.{find-where_key}
use Rattle.std.proofs.lemmas.Option.{same_Some}
use Rattle.cell_addr.specs.Order.{place_cmp}
use Rattle.cell_addr.specs.Place.{IsInside}
use Rattle.cell_addr.specs.declared.place.Place.{Place}
use Rattle.cell_addr.proofs.Places.{place_cmp-IsTotalOrder, place_cmp-IsAntisymmetric}
use Rattle.shift_core.specs.declared.shift.Shift.{Shift}
use Rattle.shift_core.specs.Form.{form_of}
use Rattle.shift_core.specs.Maps.{PlaceMap, AreInside, entry_after, entry_before, moved_map, lost_entries, restored_map}
use Rattle.shift_core.specs.Sound.{IsSound}
use Rattle.shift_core.specs.Tables.{place_after, place_before}
use Rattle.shift_core.proofs.CarriedEntries.{eq_by_cmp-decides, find-carried, find-carried_nowhere, find-carried_somewhere}
use Rattle.shift_core.proofs.PlaceLaws.{place_moved_returns, place_returned_goes, place_moved_inside}

-- what a list of entries has at a place
abbrev pub find_place : {X : Type 0} → Place → List (Place × X) → Option X
find_place q es = find place_cmp q es

found_here : {X : Type 0} (q : Place) (e : Place × X) (es : List (Place × X)) → q ≡ e.0 → IsSome (find_place q (e ∷ es))
found_here q e es same =
    let here : eq_by_cmp place_cmp q e.0 ≡ true = (eq_by_cmp-decides place_cmp-IsTotalOrder place_cmp-IsAntisymmetric q e.0).1 same in rw here refl

found_or : {X : Type 0} (b : Bool) (x : X) (r : Option X) → IsSome r → IsSome (cond b (Some x) r)
found_or true x r h = refl
found_or false x r h = h

-- what holds of each place that the entries have holds of the place of each entry
pub each_place : {X : Type 0} (P : Place → Type 0) (es : List (Place × X)) → ((q : Place) → IsSome (find_place q es) → P q) → AllByRecursion (λ e. P e.0) es
each_place P [] h = tt
each_place P (e ∷ es) h = (h e.0 (found_here e.0 e es refl), each_place P es (λ q some. h q (found_or (eq_by_cmp place_cmp q e.0) e.1 (find_place q es) some)))

-- of two lists of entries the first decides
find-or : {X : Type 0} (q : Place) (b : Bool) (x : X) (r s : Option X) (y : X) → cond b (Some x) r ≡ Some y → (r ≡ Some y → s ≡ Some y) → cond b (Some x) s ≡ Some y
find-or q true x r s y h k = h
find-or q false x r s y h k = k h

pub find-front : {X : Type 0} (q : Place) (es fs : List (Place × X)) (x : X) → find_place q es ≡ Some x → find_place q (es ++ fs) ≡ Some x
find-front q [] fs x h = cc
find-front q (e ∷ es) fs x h = find-or q (eq_by_cmp place_cmp q e.0) e.1 (find_place q es) (find_place q (es ++ fs)) x h (find-front q es fs x)

find-past : {X : Type 0} (b : Bool) (x : X) (r s t : Option X) → cond b (Some x) r ≡ None → (r ≡ None → s ≡ t) → cond b (Some x) s ≡ t
find-past true x r s t h k = cc
find-past false x r s t h k = k h

pub find-behind : {X : Type 0} (q : Place) (es fs : List (Place × X)) → find_place q es ≡ None → find_place q (es ++ fs) ≡ find_place q fs
find-behind q [] fs h = refl
find-behind q (e ∷ es) fs h = find-past (eq_by_cmp place_cmp q e.0) e.1 (find_place q es) (find_place q (es ++ fs)) (find_place q fs) h (find-behind q es fs)

same_none : {X : Type 0} (b : Bool) → cond {A = Option X} b None None ≡ None
same_none true = refl
same_none false = refl

module _ {X : Type 0} (s : Shift) (m : PlaceMap X) (sound : IsSound s) (all : AreInside m) where
  inside_entry : (p : Place) → IsSome (find_place p (entries m)) → IsInside p
  inside_entry p some = all p (subst IsSome (sym (get-entries m p)) some)

  moved_found : (q : Place) → IsInside q → (r : Option Place) → place_before s q ≡ r → find_place q (filter_map (entry_after s) (entries m)) ≡ option_and_then (get m) r
  moved_found q i None e =
      find-carried_nowhere place_cmp-IsTotalOrder place_cmp-IsAntisymmetric (place_after s) q (entries m)
      (each_place (λ p. place_after s p ≡ Some q → ⊥) (entries m) (λ p some h.
      let back : place_before s q ≡ Some p = place_moved_returns (form_of s) p q sound (inside_entry p some) h in cc))
  moved_found q i (Some k) e =
      find-carried place_cmp-IsTotalOrder place_cmp-IsAntisymmetric place_cmp-IsTotalOrder place_cmp-IsAntisymmetric (place_after s) q k (entries m)
      (each_place (λ p. (place_after s p ≡ Some q) ↔ (k ≡ p)) (entries m) (λ p some. (
        λ h. same_Some k p (sym e ∙ place_moved_returns (form_of s) p q sound (inside_entry p some) h),
        λ here. subst (λ x. place_after s x ≡ Some q) here (place_returned_goes (form_of s) k q sound i e),
      )))
      ∙ sym (get-entries m k)

  pub get-moved : (q : Place) → IsInside q → get (moved_map s m) q ≡ option_and_then (get m) (place_before s q)
  get-moved q i = get-from_entries place_cmp-IsTotalOrder (filter_map (entry_after s) (entries m)) q ∙ moved_found q i (place_before s q) refl

  pub moved_inside : AreInside (moved_map s m)
  moved_inside q some =
      find-carried_somewhere place_cmp-IsTotalOrder place_cmp-IsAntisymmetric (place_after s) IsInside (entries m)
      (each_place (λ p. (y : Place) → place_after s p ≡ Some y → IsInside y) (entries m) (λ p has y h. place_moved_inside (form_of s) p y sound (inside_entry p has) h))
      q (subst IsSome (get-from_entries place_cmp-IsTotalOrder (filter_map (entry_after s) (entries m)) q) some)

  inside_moved_entry : (p : Place) → IsSome (find_place p (entries (moved_map s m))) → IsInside p
  inside_moved_entry p some = moved_inside p (subst IsSome (sym (get-entries (moved_map s m) p)) some)

  lost_found : (q : Place) → find_place q (lost_entries s m) ≡ cond (is_none (place_after s q)) (find_place q (entries m)) None
  lost_found q = find-where_key place_cmp (λ p. is_none (place_after s p)) q (λ x t. ap (λ p. is_none (place_after s p)) (sym (place_cmp-IsAntisymmetric q x t))) (entries m)

  abbrev back_entries : List (Place × X)
  back_entries = filter_map (entry_before s) (entries (moved_map s m))

  -- where nothing was, nothing is brought back
  none_restored : (q : Place) → get m q ≡ None → find_place q (lost_entries s m ++ back_entries) ≡ None
  none_restored q none =
      find-behind q (lost_entries s m) back_entries
      (lost_found q ∙ ap (λ r. cond (is_none (place_after s q)) r None) (sym (get-entries m q) ∙ none) ∙ same_none (is_none (place_after s q)))
      ∙ find-carried_nowhere place_cmp-IsTotalOrder place_cmp-IsAntisymmetric (place_before s) q (entries (moved_map s m))
      (each_place (λ p. place_before s p ≡ Some q → ⊥) (entries (moved_map s m)) (λ p some h.
      let gone : find_place p (entries (moved_map s m)) ≡ None =
      sym (get-entries (moved_map s m) p) ∙ get-moved p (inside_moved_entry p some) ∙ ap (option_and_then (get m)) h ∙ none in
      cc))

  -- where something was, it is brought back
  some_restored : (q : Place) (x : X) → get m q ≡ Some x → (r : Option Place) → place_after s q ≡ r → find_place q (lost_entries s m ++ back_entries) ≡ Some x
  some_restored q x here None e =
      find-front q (lost_entries s m) back_entries x
      (lost_found q ∙ ap (λ r. cond (is_none r) (find_place q (entries m)) None) e ∙ sym (get-entries m q) ∙ here)
  some_restored q x here (Some k) e =
      let i : IsInside q = all q (rw here refl) in
      let back : place_before s k ≡ Some q = place_moved_returns (form_of s) q k sound i e in
      find-behind q (lost_entries s m) back_entries (lost_found q ∙ ap (λ r. cond (is_none r) (find_place q (entries m)) None) e)
      ∙ find-carried place_cmp-IsTotalOrder place_cmp-IsAntisymmetric place_cmp-IsTotalOrder place_cmp-IsAntisymmetric (place_before s) q k (entries (moved_map s m))
      (each_place (λ p. (place_before s p ≡ Some q) ↔ (k ≡ p)) (entries (moved_map s m)) (λ p some. (
        λ h. same_Some k p (sym e ∙ place_returned_goes (form_of s) q p sound (inside_moved_entry p some) h),
        λ same. subst (λ z. place_before s z ≡ Some q) same back,
      )))
      ∙ sym (get-entries (moved_map s m) k) ∙ get-moved k (place_moved_inside (form_of s) q k sound i e) ∙ ap (option_and_then (get m)) back ∙ here

  restored_by : (q : Place) (r : Option X) → get m q ≡ r → find_place q (lost_entries s m ++ back_entries) ≡ r
  restored_by q None e = none_restored q e
  restored_by q (Some x) e = some_restored q x e (place_after s q) refl

  pub restored_moved : restored_map s (lost_entries s m) (moved_map s m) ≡ m
  restored_moved = same_map place_cmp-IsTotalOrder place_cmp-IsAntisymmetric _ _ (λ q.
      get-from_entries place_cmp-IsTotalOrder (lost_entries s m ++ back_entries) q ∙ restored_by q (get m q) refl)
