-- The filled cells of a block, listed. Serves what marks them.
use Rattle.std.proofs.Common.{◌≡◌, ◌∙◌, sym, ap, refl, Bool, true, false, cond, ◌||◌, List, [], ◌∷◌, Option, Some, None, is_some, option_map, Bor}
use Rattle.std.specs.FinMap as fin
use Rattle.std.specs.FinMap.{find, get-entries, get-retain_keys}
use Rattle.std.specs.Ordering.{eq_by_cmp}
use Rattle.std.proofs.lemmas.Bool.{false≢true}
use Rattle.cell_addr.specs.Order.{place_cmp}
use Rattle.cell_addr.specs.Place.{covers, same_place}
use Rattle.cell_addr.specs.declared.place.Block.{Block}
use Rattle.cell_addr.specs.declared.place.Place.{Place}
use Rattle.cell_addr.proofs.Places.{place_cmp-IsAntisymmetric, place_cmp-IsTotalOrder}
use Rattle.cell_addr.proofs.SamePlaces.{same_place-equal, same_place-self}
use Rattle.grid_store.specs.Grid.{seen_items, within}
use Rattle.grid_store.specs.declared.cell.Cell.{Cell}
use Rattle.shift_core.specs.Maps.{PlaceMap}
use Rattle.shift_core.proofs.CarriedEntries.{eq_by_cmp-decides}
use Rattle.book_model.proofs.Contents.{is_at}
use Rattle.kept_book.proofs.Contents.{get-contents}
use Rattle.kept_book.specs.Numbered.{Numbered}
use Rattle.kept_book.specs.Stored.{content_of, contents_of}
use Rattle.session_values.specs.Touched.{is_place_of}

-- the places of cells that are lent
places_seen : (items : List (Place × Bor Cell)) (p : Place) → is_place_of (λ e. e.0) items p ≡ is_place_of (λ e. e.0) (seen_items items) p
places_seen [] p = refl
places_seen (e ∷ es) p = ap (λ t. same_place p e.0 || t) (places_seen es p)

-- a place is listed exactly where it has an entry
places_found : (p : Place) (es : List (Place × Cell)) → is_place_of (λ e. e.0) es p ≡ is_some (find place_cmp p es)
places_found p [] = refl
places_found p (e ∷ es) = by (places_found p es) (eq_by_cmp place_cmp p e.0) refl
  where
    isnt : (b : Bool) → same_place p e.0 ≡ b → eq_by_cmp place_cmp p e.0 ≡ false → b ≡ false
    isnt false here apart = refl
    isnt true here apart = absurd (false≢true (sym apart ∙ (eq_by_cmp-decides place_cmp-IsTotalOrder place_cmp-IsAntisymmetric p e.0).1 (same_place-equal p e.0 here)))

    by : is_place_of (λ x. x.0) es p ≡ is_some (find place_cmp p es) → (t : Bool) → eq_by_cmp place_cmp p e.0 ≡ t → (same_place p e.0 || is_place_of (λ x. x.0) es p) ≡ is_some (cond (eq_by_cmp place_cmp p e.0) (Some e.1) (find place_cmp p es))
    by later true is =
        ap (λ b. b || is_place_of (λ x. x.0) es p) (ap (λ q. same_place p q) (is_at e.0 p is) ∙ same_place-self p)
        ∙ sym (ap (λ b. is_some (cond b (Some e.1) (find place_cmp p es))) is)
    by later false is =
        ap (λ b. b || is_place_of (λ x. x.0) es p) (isnt (same_place p e.0) refl is) ∙ later
        ∙ sym (ap (λ b. is_some (cond b (Some e.1) (find place_cmp p es))) is)

module _ (area : Block) (cells : PlaceMap Cell) (items : List (Place × Bor Cell)) (listed : seen_items items ≡ fin.entries (within area cells)) where
  has_place : (p : Place) → is_place_of (λ e. e.0) items p ≡ is_some (cond (covers area p) (fin.get cells p) None)
  has_place p =
      places_seen items p ∙ ap (λ es. is_place_of (λ e. e.0) es p) listed ∙ places_found p (fin.entries (within area cells))
      ∙ ap is_some (sym (get-entries (within area cells) p) ∙ get-retain_keys cells (covers area) p (λ q t. ap (covers area) (sym (place_cmp-IsAntisymmetric p q t))))

  -- each is in the block
  pub filled_within : (p : Place) → is_place_of (λ e. e.0) items p ≡ true → covers area p ≡ true
  filled_within p h = by (covers area p) (sym (has_place p) ∙ h)
    where
      by : (b : Bool) → is_some (cond b (fin.get cells p) None) ≡ true → b ≡ true
      by true e = refl
      by false e = e

  -- each cell of the block with a content is listed
  pub filled_listed : (stands : Numbered) (p : Place) → covers area p ≡ true → is_some (fin.get (contents_of stands cells) p) ≡ true → is_place_of (λ e. e.0) items p ≡ true
  filled_listed stands p covered filled =
      has_place p ∙ ap (λ b. is_some (cond b (fin.get cells p) None)) covered ∙ some_under (fin.get cells p) (ap is_some (sym (get-contents stands cells p)) ∙ filled)
    where
      some_under : (o : Option Cell) → is_some (option_map (content_of stands) o) ≡ true → is_some o ≡ true
      some_under None e = e
      some_under (Some x) e = refl
