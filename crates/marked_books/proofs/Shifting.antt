-- A structural operation of a session leads to the workbook that links and kept values follow. Serves the laws.
use Rattle.std.proofs.Common.{◌≡◌, ◌∙◌, sym, ap, refl, subst, arith, ℕ, ◌<◌, ◌≤◌, Bool, true, false, cond, not, ◌==◌, List, [], ◌∷◌, Option, Some, None, IsSome, ⊎_elim, option_and_then, option_map, eqb-true}
use Rattle.std.specs.FinMap as map
use Rattle.std.specs.List.{All, list_any}
use Rattle.std.proofs.lemmas.List.Elements.{All-head, All-tail}
use Rattle.std.proofs.lemmas.Bool.{false_from_ne_true, false≢true, or_cases}
use Rattle.std.proofs.lemmas.Option.{none-some, same_Some}
use Rattle.cell_addr.specs.Place.{IsInside}
use Rattle.cell_addr.specs.declared.place.Place.{Place}
use Rattle.cell_addr.specs.declared.place.TheConstants.{NO_SHEET}
use Rattle.formula_tree.specs.Links.{same_scope}
use Rattle.formula_tree.specs.Term.{Term}
use Rattle.formula_tree.specs.declared.reference.Corner.{Corner}
use Rattle.shift_core.specs.Form.{form_of}
use Rattle.shift_core.specs.Maps.{AreInside, moved_map}
use Rattle.shift_core.specs.Sound.{IsSound as IsSoundShift}
use Rattle.shift_core.specs.Tables.{place_before}
use Rattle.shift_core.specs.declared.form.Form.{Form}
use Rattle.shift_core.specs.declared.form.Form.TheVariants.{Cells, Lines, Sheet}
use Rattle.shift_core.specs.declared.shift.Shift.{Shift}
use Rattle.shift_core.proofs.MovedMaps.{get-moved}
use Rattle.shift_core.proofs.PlaceLaws.{place_moved_inside, place_moved_returns}
use Rattle.tree_rewrite.specs.References.{FitsSheets}
use Rattle.tree_rewrite.specs.Rewritten.{rewritten}
use Rattle.tree_rewrite.proofs.CallerLemmas.{proper-fit}
use Rattle.book_values.specs.Book.{Content}
use Rattle.book_values.specs.Book as contents
use Rattle.book_values.specs.Names.{Key, tree_in}
use Rattle.book_values.specs.Workbook as book
use Rattle.book_values.specs.Workbook.{content_tree, scope_sheet}
use Rattle.carried_books.specs.Moved.{content_after}
use Rattle.recalc_core.specs.Shifted.{drops_scope}
use Rattle.marked_values.specs.Marks.{IsBookInside}
use Rattle.marked_values.specs.Shifts.{IsBookAfter}
use Rattle.book_model.specs.Answers.{valued}
use Rattle.book_model.specs.Changes.{rewritten_content, shifted, stays}
use Rattle.book_model.specs.Refusals.{first_cause, of_form}
use Rattle.book_model.specs.Sound.{IsSound, IsSoundBook}
use Rattle.book_model.specs.Workbook.{State, Workbook, has_sheet}
use Rattle.book_model.specs.declared.limits.TheConstants.{MAX_SHEETS}
use Rattle.book_model.proofs.Accepted.{is_known, none_hold, sound_form}
use Rattle.book_model.proofs.NameMaps.{get-after}
use Rattle.book_model.proofs.ShiftedBooks.{came, get-rewritten}
use Rattle.marked_books.specs.Operations.{AcceptedShiftsLeadOn, SessionsAreInside}
use Rattle.marked_books.proofs.NameEntries.{tree_in-entries}

-- ---- limits

module _ (n : ℕ) (b : Workbook) (sound : IsSoundBook n b) where
  cell_inside : (p : Place) (c : Content) → map.get b.cells p ≡ Some c → IsInside p
  cell_inside p c e = (sound.cells p c e).0

  cell_fits : (p : Place) (t : Term Corner) (o : Option Content) → map.get b.cells p ≡ o → content_tree (map.get b.cells p) ≡ Some t → FitsSheets t
  cell_fits p t None e is = absurd (none-some t (sym (ap content_tree e) ∙ is))
  cell_fits p t (Some (contents.number m)) e is = absurd (none-some t (sym (ap content_tree e) ∙ is))
  cell_fits p t (Some (contents.truth m)) e is = absurd (none-some t (sym (ap content_tree e) ∙ is))
  cell_fits p t (Some (contents.text m)) e is = absurd (none-some t (sym (ap content_tree e) ∙ is))
  cell_fits p t (Some (contents.unreadable m)) e is = absurd (none-some t (sym (ap content_tree e) ∙ is))
  cell_fits p t (Some (contents.formula u)) e is =
      subst FitsSheets (same_Some u t (sym (ap content_tree e) ∙ is)) (proper-fit u (sound.cells p (contents.formula u) e).2.0)

  trees_fit : (x : book.Node) (t : Term Corner) → book.tree_at (valued b) x ≡ Some t → FitsSheets t
  trees_fit (book.place p) t is = cell_fits p t (map.get b.cells p) refl is
  trees_fit (book.name key) t is = proper-fit t (sound.names key t (sym (tree_in-entries b.names key) ∙ is)).1.0

  pub book_inside : IsBookInside (valued b)
  book_inside = record { cells = cell_inside; trees = trees_fit }

  pub all_inside : AreInside b.cells
  all_inside p some = by (map.get b.cells p) refl some
    where
      by : (o : Option Content) → map.get b.cells p ≡ o → IsSome o → IsInside p
      by None e some = cc
      by (Some c) e some = cell_inside p c e

pub sessions_are_inside : SessionsAreInside
sessions_are_inside d sound = book_inside d.next_sheet d.book sound.book

-- ---- the workbook after an operation

same_rewritten : (s : Shift) (o : Option Content) → option_map (rewritten_content s) o ≡ option_map (content_after s) o
same_rewritten s None = refl
same_rewritten s (Some (contents.number m)) = refl
same_rewritten s (Some (contents.truth m)) = refl
same_rewritten s (Some (contents.text m)) = refl
same_rewritten s (Some (contents.unreadable m)) = refl
same_rewritten s (Some (contents.formula t)) = refl

-- a name goes with its sheet
goes_or_stays : (f : Form) (key : Key) → drops_scope f NO_SHEET ≡ false → stays f key ≡ not (drops_scope f (scope_sheet key.scope))
goes_or_stays (Lines sheet axis edit) key global = refl
goes_or_stays (Cells source to) key global = refl
goes_or_stays (Sheet sheet) key global = by key.scope
  where
    by : (scope : Option ℕ) → not (same_scope scope (Some sheet)) ≡ not (scope_sheet scope == sheet)
    by None = sym (ap not global)
    by (Some own) = refl

module _ (s : Shift) (b : Workbook) (can : IsSoundShift s) (on_sheets : AreInside b.cells) (global : drops_scope (form_of s) NO_SHEET ≡ false) where
  after_at : (q : Place) → IsInside q → map.get (shifted s b).cells q ≡ option_map (content_after s) (option_and_then (map.get b.cells) (place_before s q))
  after_at q inside =
      get-rewritten s (moved_map s b.cells) q
      ∙ ap (option_map (rewritten_content s)) (get-moved s b.cells can on_sheets q inside)
      ∙ same_rewritten s (option_and_then (map.get b.cells) (place_before s q))

  name_after : (key : Key) (t : Bool) → drops_scope (form_of s) (scope_sheet key.scope) ≡ t
      → tree_in (map.entries (shifted s b).names) key ≡ option_map (rewritten s) (cond (not t) (map.get b.names key) None)
  name_after key t e =
      tree_in-entries (shifted s b).names key ∙ get-after s b.names key
      ∙ ap (λ m. option_map (rewritten s) (cond m (map.get b.names key) None)) (goes_or_stays (form_of s) key global ∙ ap not e)

  pub book_after : IsBookAfter s (valued b) (valued (shifted s b))
  book_after = record {
    cells = λ p q inside goes.
        after_at q (place_moved_inside (form_of s) p q can inside goes)
        ∙ ap (λ o. option_map (content_after s) (option_and_then (map.get b.cells) o)) (place_moved_returns (form_of s) p q can inside goes);
    fresh = λ q inside none. after_at q inside ∙ ap (λ o. option_map (content_after s) (option_and_then (map.get b.cells) o)) none;
    names = λ key stay. name_after key false stay ∙ ap (option_map (rewritten s)) (sym (tree_in-entries b.names key));
    dropped = λ key drops. name_after key true drops;
    global = global;
    inside = λ q c there. let from = came s b.cells q c can on_sheets there in from.inside;
  }

-- ---- which operations are accepted

-- a sheet of the book isn't the scope of the whole workbook
listed_below : (n : ℕ) (sheets : List (ℕ × List ℕ)) (sheet : ℕ) → All (λ s. s.0 < n) sheets → list_any (λ s. s.0 == sheet) sheets ≡ true → sheet < n
listed_below n [] sheet all h = absurd (false≢true h)
listed_below n (x ∷ xs) sheet all h = ⊎_elim
    (λ (here : (x.0 == sheet) ≡ true). subst (λ m. m < n) (eqb-true x.0 sheet here) (All-head (λ s. s.0 < n) x xs all))
    (λ (later : list_any (λ s. s.0 == sheet) xs ≡ true). listed_below n xs sheet (All-tail (λ s. s.0 < n) x xs all) later)
    (or_cases (x.0 == sheet) (list_any (λ s. s.0 == sheet) xs) h)

drops_no_global : (d : State) (f : Form) → IsSound d → first_cause (of_form d f) ≡ None → drops_scope f NO_SHEET ≡ false
drops_no_global d (Lines sheet axis edit) sound e = refl
drops_no_global d (Cells source to) sound e = refl
drops_no_global d (Sheet sheet) sound e = false_from_ne_true (NO_SHEET == sheet) (λ same. apart sheet below sound.few (eqb-true NO_SHEET sheet same))
  where
    below : sheet < d.next_sheet
    below = listed_below d.next_sheet d.book.sheets sheet sound.book.numbers (is_known (has_sheet d.book sheet) (none_hold (of_form d (Sheet sheet)) e).0)

    apart : (sheet : ℕ) → sheet < d.next_sheet → d.next_sheet ≤ MAX_SHEETS → NO_SHEET ≡ sheet → ⊥
    apart sheet low few same = omega (arith, low, few, same)

pub accepted_shifts_lead_on : AcceptedShiftsLeadOn
accepted_shifts_lead_on s d sound accepted =
    let can = (sound_form d (form_of s) accepted).0 in
    (can, book_after s d.book can (all_inside d.next_sheet d.book sound.book) (drops_no_global d (form_of s) sound accepted))
