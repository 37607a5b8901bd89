-- Contents and their formulas after a structural operation. Serves the calls of a kept workbook.
use Rattle.std.proofs.Common.{◌≡◌, ◌∙◌, sym, ap, subst, refl, arith, ℕ, Bool, true, false, Option, Some, None, option_map, IsSome}
use Rattle.std.proofs.lemmas.Bool.Decides.{nat_tests}
use Rattle.std.specs.Prelude.{option_and_then}
use Rattle.std.specs.FinMap as fin
use Rattle.std.specs.FinMap.{same_map}
use Rattle.cell_addr.specs.Place.{IsInside}
use Rattle.cell_addr.specs.declared.place.Place.{Place}
use Rattle.cell_addr.proofs.Places.{place_cmp-IsTotalOrder, place_cmp-IsAntisymmetric}
use Rattle.book_values.specs.Book.{formula}
use Rattle.formula_tree.specs.Term.{Term}
use Rattle.formula_tree.specs.declared.reference.Corner.{Corner}
use Rattle.grid_store.specs.declared.cell.Cell.{Cell}
use Rattle.grid_store.specs.declared.cell.Cell.TheVariants as cell
use Rattle.shift_core.proofs.MovedMaps.{get-moved, moved_inside}
use Rattle.shift_core.proofs.PlaceLaws.{place_returned_goes}
use Rattle.shift_core.specs.Form.{form_of}
use Rattle.shift_core.specs.Maps.{AreInside, PlaceMap, moved_map}
use Rattle.shift_core.specs.Sound.{IsSound as IsSoundShift}
use Rattle.shift_core.specs.Tables.{place_after, place_before}
use Rattle.shift_core.specs.declared.shift.Shift.{Shift}
use Rattle.tree_rewrite.specs.Rewritten.{rewritten}
use Rattle.book_model.proofs.Accepted.{is_inside}
use Rattle.book_model.proofs.ShiftedBooks.{get-rewritten}
use Rattle.book_model.specs.Changes.{rewritten_content, rewritten_contents}
use Rattle.book_model.specs.Refusals.{is_outside}
use Rattle.kept_book.specs.Numbered.{Follows, Numbered, stood_after}
use Rattle.kept_book.specs.Stored.{AllStand, StandsAt, content_of, contents_of, tree_of}
use Rattle.kept_book.proofs.Contents.{get-contents, standing, stands_at}

some_mapped : {X Y : Type 0} (h : X → Y) (r : Option X) → IsSome (option_map h r) → IsSome r
some_mapped h None some = cc
some_mapped h (Some x) some = refl

-- a place has a content exactly where its cell is filled
pub filled_cell : (stands : Numbered) (cells : PlaceMap Cell) (p : Place) → IsSome (fin.get (contents_of stands cells) p) → IsSome (fin.get cells p)
filled_cell stands cells p some = some_mapped (content_of stands) (fin.get cells p) (subst IsSome (get-contents stands cells p) some)

pub filled_contents : (stands : Numbered) (cells : PlaceMap Cell) (p : Place) → IsSome (fin.get cells p) → IsSome (fin.get (contents_of stands cells) p)
filled_contents stands cells p some = subst IsSome (sym (get-contents stands cells p)) (go (fin.get cells p) some)
  where
    go : (r : Option Cell) → IsSome r → IsSome (option_map (content_of stands) r)
    go None s = s
    go (Some c) s = refl

contents_inside : (stands : Numbered) (cells : PlaceMap Cell) → AreInside cells → AreInside (contents_of stands cells)
contents_inside stands cells inside p some = inside p (filled_cell stands cells p some)

pub cells_inside : (stands : Numbered) (cells : PlaceMap Cell) → AreInside (contents_of stands cells) → AreInside cells
cells_inside stands cells inside p some = inside p (filled_contents stands cells p some)

outside_none : {X : Type 0} (s : Shift) (m : PlaceMap X) (q : Place) → IsSoundShift s → AreInside m → is_outside q ≡ true → fin.get (moved_map s m) q ≡ None
outside_none s m q sound inside out = go (fin.get (moved_map s m) q) refl
  where
    no : IsInside q → is_outside q ≡ true → ⊥
    no i o = grind (arith, nat_tests)

    go : (r : Option _) → fin.get (moved_map s m) q ≡ r → r ≡ None
    go None e = refl
    go (Some x) e = absurd (no (moved_inside s m sound inside q (subst IsSome (sym e) refl)) out)

-- what stands under the number of a cell that came to a place
pub came_along : (s : Shift) (one two : Numbered) (cells : PlaceMap Cell) (p q : Place) (n : ℕ) → IsSoundShift s → AllStand one cells → Follows s one two → IsInside q
    → place_before s q ≡ Some p → fin.get cells p ≡ Some (cell.Formula n) → (t : Term Corner) × (one n ≡ Some (p, t)) × (two n ≡ Some (q, rewritten s t))
came_along s one two cells p q n sound all follows i from e =
    let old = standing one n p (all p n e) in
    let there : place_after s p ≡ Some q = place_returned_goes (form_of s) p q sound i from in
    (old.0, old.1, follows n ∙ ap (option_and_then (stood_after s)) old.1 ∙ ap (option_map (λ r. (r, rewritten s old.0))) there)

module _ (s : Shift) (one two : Numbered) (cells : PlaceMap Cell) (sound : IsSoundShift s) (inside : AreInside cells) (all : AllStand one cells) (follows : Follows s one two) where
  same_content : (p q : Place) (r : Option Cell) → fin.get cells p ≡ r → IsInside q → place_before s q ≡ Some p
      → option_map (content_of two) r ≡ option_map (rewritten_content s) (option_map (content_of one) r)
  same_content p q None e i from = refl
  same_content p q (Some (cell.Number m)) e i from = refl
  same_content p q (Some (cell.Truth b)) e i from = refl
  same_content p q (Some (cell.Text w)) e i from = refl
  same_content p q (Some (cell.Formula n)) e i from =
      let along = came_along s one two cells p q n sound all follows i from e in
      ap (λ r. Some (formula (tree_of r))) along.2 ∙ sym (ap (λ r. Some (formula (rewritten s (tree_of r)))) along.1)
  same_content p q (Some (cell.Broken w)) e i from = refl

  came_content : (q : Place) (r : Option Place) → place_before s q ≡ r → IsInside q
      → option_map (content_of two) (option_and_then (fin.get cells) r) ≡ option_map (rewritten_content s) (option_and_then (fin.get (contents_of one cells)) r)
  came_content q None from i = refl
  came_content q (Some p) from i = same_content p q (fin.get cells p) refl i from ∙ ap (option_map (rewritten_content s)) (sym (get-contents one cells p))

  at_place : (q : Place) (b : Bool) → is_outside q ≡ b → option_map (content_of two) (fin.get (moved_map s cells) q) ≡ option_map (rewritten_content s) (fin.get (moved_map s (contents_of one cells)) q)
  at_place q true out =
      ap (option_map (content_of two)) (outside_none s cells q sound inside out)
      ∙ sym (ap (option_map (rewritten_content s)) (outside_none s (contents_of one cells) q sound (contents_inside one cells inside) out))
  at_place q false out =
      let i = is_inside q out in
      ap (option_map (content_of two)) (get-moved s cells sound inside q i)
      ∙ came_content q (place_before s q) refl i
      ∙ sym (ap (option_map (rewritten_content s)) (get-moved s (contents_of one cells) sound (contents_inside one cells inside) q i))

  -- the contents after the operation, from the cells and the formulas after it
  pub contents-shifted : contents_of two (moved_map s cells) ≡ rewritten_contents s (moved_map s (contents_of one cells))
  contents-shifted = same_map place_cmp-IsTotalOrder place_cmp-IsAntisymmetric _ _ (λ q.
      get-contents two (moved_map s cells) q ∙ at_place q (is_outside q) refl ∙ sym (get-rewritten s (moved_map s (contents_of one cells)) q))

  stands_from : (q : Place) (n : ℕ) (r : Option Place) → place_before s q ≡ r → IsInside q → option_and_then (fin.get cells) r ≡ Some (cell.Formula n) → StandsAt two n q
  stands_from q n None from i e = cc
  stands_from q n (Some p) from i e = let along = came_along s one two cells p q n sound all follows i from e in stands_at two n q (rewritten s along.0) along.2

  pub stand-shifted : AllStand two (moved_map s cells)
  stand-shifted q n e =
      let i = moved_inside s cells sound inside q (subst IsSome (sym e) refl) in
      stands_from q n (place_before s q) refl i (sym (get-moved s cells sound inside q i) ∙ e)
