-- What carried maps have at a place, by the rule that leads back. Serves operations on a grid.
use Rattle.std.proofs.Common.{◌≡◌, ◌∙◌, sym, refl, subst, ◌↔◌, Bool, cond, List, [], ◌∷◌, Option, Some, None, option_and_then, IsSome, is_none, filter}
use Rattle.std.specs.FinMap as map
use Rattle.std.specs.FinMap.{entries, get, get-entries, get-from_entries}
use Rattle.std.specs.List.{AllByRecursion}
use Rattle.std.proofs.lemmas.Option.{same_Some}
use Rattle.cell_addr.specs.Axis.{limit_of}
use Rattle.cell_addr.specs.Place.{IsInside}
use Rattle.cell_addr.specs.declared.axis.Axis.{Axis}
use Rattle.cell_addr.specs.declared.place.Place.{Place}
use Rattle.cell_addr.proofs.Places.{place_cmp-IsTotalOrder, place_cmp-IsAntisymmetric}
use Rattle.shift_core.specs.Maps.{AreInside, PlaceMap}
use Rattle.shift_core.specs.Sound.{IsSoundForm}
use Rattle.shift_core.specs.Tables.{by_line}
use Rattle.shift_core.specs.declared.edit.Edit.{Edit}
use Rattle.shift_core.specs.declared.form.Form.{Form}
use Rattle.shift_core.specs.declared.form.Form.TheVariants.{Lines}
use Rattle.shift_core.proofs.CarriedEntries.{find-carried, find-carried_nowhere}
use Rattle.shift_core.proofs.MovedMaps.{each_place, find_place}
use Rattle.shift_core.proofs.PlaceLaws.{place_moved_returns, place_returned_goes, place_moved_inside, place_returned_inside}
use Rattle.grid_store.specs.internal.Ways.{carried_map, form_goes, line_goes, lost_by, turned}
use Rattle.grid_store.specs.declared.way.Going.{Going}
use Rattle.grid_store.specs.declared.way.Going.TheVariants.{Forth, Back}
use Rattle.grid_store.proofs.PlaceMaps.{entries-kept}

-- the other way leads back
pub returns : (w : Going) (f : Form) (p q : Place) → IsSoundForm f → IsInside p → form_goes w f p ≡ Some q → form_goes (turned w) f q ≡ Some p
returns Forth f p q sound i h = place_moved_returns f p q sound i h
returns Back f p q sound i h = place_returned_goes f q p sound i h

-- and from there it leads forth again
pub returned : (w : Going) (f : Form) (p q : Place) → IsSoundForm f → IsInside q → form_goes (turned w) f q ≡ Some p → form_goes w f p ≡ Some q
returned Forth f p q sound i h = place_returned_goes f p q sound i h
returned Back f p q sound i h = place_moved_returns f q p sound i h

pub stays_inside : (w : Going) (f : Form) (p q : Place) → IsSoundForm f → IsInside p → form_goes w f p ≡ Some q → IsInside q
stays_inside Forth f p q sound i h = place_moved_inside f p q sound i h
stays_inside Back f p q sound i h = place_returned_inside f q p sound i h

-- an edit of lines goes by the line
pub goes_by_line : (w : Going) (sheet : _) (axis : Axis) (edit : Edit) → form_goes w (Lines sheet axis edit) ≡ by_line sheet axis (line_goes w (limit_of axis) edit)
goes_by_line Forth sheet axis edit = refl
goes_by_line Back sheet axis edit = refl

module _ {X : Type 0} (w : Going) (f : Form) (sound : IsSoundForm f) (m : PlaceMap X) (all : AreInside m) where
  inside_entry : (p : Place) → IsSome (find_place p (entries m)) → IsInside p
  inside_entry p some = all p (subst IsSome (sym (get-entries m p)) some)

  -- what the carried map has at a place of the sheet, by what came there
  pub get-carried : (q : Place) (r : Option Place) → IsInside q → form_goes (turned w) f q ≡ r → get (carried_map (form_goes w f) m) q ≡ option_and_then (get m) r
  get-carried q None i e =
      get-from_entries place_cmp-IsTotalOrder _ q
      ∙ find-carried_nowhere place_cmp-IsTotalOrder place_cmp-IsAntisymmetric (form_goes w f) q (entries m)
      (each_place (λ p. form_goes w f p ≡ Some q → ⊥) (entries m) (λ p some h. let back = returns w f p q sound (inside_entry p some) h in cc))
  get-carried q (Some k) i e =
      get-from_entries place_cmp-IsTotalOrder _ q
      ∙ find-carried place_cmp-IsTotalOrder place_cmp-IsAntisymmetric place_cmp-IsTotalOrder place_cmp-IsAntisymmetric (form_goes w f) q k (entries m)
      (each_place (λ p. (form_goes w f p ≡ Some q) ↔ (k ≡ p)) (entries m) (λ p some. (
        λ h. same_Some k p (sym e ∙ returns w f p q sound (inside_entry p some) h),
        λ same. subst (λ x. form_goes w f x ≡ Some q) same (returned w f k q sound i e),
      )))
      ∙ sym (get-entries m k)

  -- and past the sheet
  pub get-carried_outside : (q : Place) → (IsInside q → ⊥) → get (carried_map (form_goes w f) m) q ≡ None
  get-carried_outside q out =
      get-from_entries place_cmp-IsTotalOrder _ q
      ∙ find-carried_nowhere place_cmp-IsTotalOrder place_cmp-IsAntisymmetric (form_goes w f) q (entries m)
      (each_place (λ p. form_goes w f p ≡ Some q → ⊥) (entries m) (λ p some h. out (stays_inside w f p q sound (inside_entry p some) h)))

same_filter : {X : Type 0} (a b : Place → Bool) (es : List (Place × X)) → AllByRecursion (λ e. a e.0 ≡ b e.0) es → filter (λ e. a e.0) es ≡ filter (λ e. b e.0) es
same_filter a b [] h = refl
same_filter a b (e ∷ es) h = λ i. cond (h.0 i) (e ∷ same_filter a b es h.1 i) (same_filter a b es h.1 i)

-- the lost entries are those that a test of the places of the sheet finds
pub lost-kept : {X : Type 0} (g : Place → Option Place) (p : Place → Bool) (m : PlaceMap X) → AreInside m → ((q : Place) → IsInside q → p q ≡ is_none (g q)) → entries (map.retain_keys m p) ≡ lost_by g m
lost-kept g p m all h =
    entries-kept m p
    ∙ same_filter p (λ q. is_none (g q)) (entries m) (each_place (λ q. p q ≡ is_none (g q)) (entries m) (λ q some. h q (all q (subst IsSome (sym (get-entries m q)) some))))
