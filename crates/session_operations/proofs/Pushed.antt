-- Whether an insert pushes a cell off its sheet, by the list of cells. Serves the tests of refusals.
use Rattle.std.proofs.Common.{◌≡◌, ◌∙◌, sym, ap, subst, refl, Bool, true, false, cond, ◌||◌, List, [], ◌∷◌, Option, Some, None, IsSome, is_none, ◌↔◌, IsTrue}
use Rattle.std.specs.List.{AllByRecursion, list_any}
use Rattle.std.specs.FinMap as fin
use Rattle.std.specs.FinMap.{find, get-entries}
use Rattle.std.specs.Ordering.{eq_by_cmp}
use Rattle.cell_addr.specs.Order.{place_cmp}
use Rattle.cell_addr.specs.declared.place.Place.{Place}
use Rattle.cell_addr.proofs.Places.{place_cmp-IsTotalOrder, place_cmp-IsAntisymmetric}
use Rattle.grid_store.specs.Grid.{IsInsert, PushesEntryOff}
use Rattle.grid_store.specs.declared.cell.Cell.{Cell}
use Rattle.shift_core.proofs.CarriedEntries.{eq_by_cmp-decides}
use Rattle.shift_core.proofs.MovedMaps.{each_place}
use Rattle.shift_core.specs.Form.{form_of}
use Rattle.shift_core.specs.Maps.{PlaceMap}
use Rattle.shift_core.specs.Tables.{place_after, place_moved}
use Rattle.shift_core.specs.declared.form.Form.{Form}
use Rattle.shift_core.specs.declared.shift.Shift.{Shift}
use Rattle.kept_book.specs.Numbered.{Numbered}
use Rattle.kept_book.specs.Stored.{contents_of}
use Rattle.kept_book.proofs.ShiftedContents.{filled_contents, filled_cell}

-- an entry whose place passes the test
any_place : {X : Type 0} (test : Place → Bool) (es : List (Place × X)) (p : Place) → IsSome (find place_cmp p es) → test p ≡ true → list_any (λ e. test e.0) es ≡ true
any_place test [] p some t = cc
any_place test (e ∷ es) p some t = go (eq_by_cmp place_cmp p e.0) refl some (any_place test es p)
  where
    later : (b c : Bool) → c ≡ true → b || c ≡ true
    later true c h = refl
    later false c h = h

    go : (b : Bool) → eq_by_cmp place_cmp p e.0 ≡ b → IsSome (cond b (Some e.1) (find place_cmp p es)) → (IsSome (find place_cmp p es) → test p ≡ true → list_any (λ e. test e.0) es ≡ true) → test e.0 || list_any (λ e. test e.0) es ≡ true
    go true is s more =
        let here : test e.0 ≡ true = ap test (sym ((eq_by_cmp-decides place_cmp-IsTotalOrder place_cmp-IsAntisymmetric p e.0).0 is)) ∙ t in
        ap (λ b. b || list_any (λ e. test e.0) es) here
    go false is s more = later (test e.0) (list_any (λ e. test e.0) es) (more s t)

none_of : {X : Type 0} (test : Place → Bool) (es : List (Place × X)) → AllByRecursion (λ e. test e.0 ≡ false) es → list_any (λ e. test e.0) es ≡ false
none_of test [] h = refl
none_of test (e ∷ es) h = ap (λ b. b || list_any (λ e. test e.0) es) h.0 ∙ none_of test es h.1

none_is : {X : Type 0} (r : Option X) → is_none r ≡ true → r ≡ None
none_is None e = refl
none_is (Some x) e = cc

-- the grid's answer is that of the list of contents
pub pushed : (s : Shift) (f : Form) (stands : Numbered) (cells : PlaceMap Cell) (r : Bool) → form_of s ≡ f → IsInsert f → (IsTrue r ↔ PushesEntryOff s cells)
    → r ≡ list_any (λ e. is_none (place_moved f e.0)) (fin.entries (contents_of stands cells))
pushed s f stands cells true form insert iff =
    let found = iff.0 refl in
    let p = found.1.0 in
    let lost : is_none (place_moved f p) ≡ true = ap is_none (ap (λ g. place_moved g p) (sym form) ∙ found.1.2) in
    sym (any_place (λ q. is_none (place_moved f q)) (fin.entries (contents_of stands cells)) p (subst IsSome (get-entries (contents_of stands cells) p) (filled_contents stands cells p found.1.1)) lost)
pushed s f stands cells false form insert iff =
    sym (none_of (λ q. is_none (place_moved f q)) (fin.entries (contents_of stands cells))
    (each_place (λ q. is_none (place_moved f q) ≡ false) (fin.entries (contents_of stands cells)) (λ q some. go q some (is_none (place_moved f q)) refl)))
  where
    no : false ≡ true → (b : Bool) → b ≡ false
    no e b = cc

    go : (q : Place) → IsSome (find place_cmp q (fin.entries (contents_of stands cells))) → (b : Bool) → is_none (place_moved f q) ≡ b → is_none (place_moved f q) ≡ false
    go q some false e = e
    go q some true e =
        let lost : place_after s q ≡ None = ap (λ g. place_moved g q) form ∙ none_is (place_moved f q) e in
        let filled = filled_cell stands cells q (subst IsSome (sym (get-entries (contents_of stands cells) q)) some) in
        no (iff.1 (subst IsInsert (sym form) insert, (q, filled, lost))) (is_none (place_moved f q))
