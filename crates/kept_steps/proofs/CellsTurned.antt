-- What steps of cells alone leave of a workbook. Serves undo and redo.
use Rattle.std.proofs.Common.{◌≡◌, ◌∙◌, sym, ap, subst, refl, ℕ, Bool, true, false, cond, ◌||◌, ◌++◌, List, [], ◌∷◌, Option, Some, None, option_map}
use Rattle.std.proofs.lemmas.Bool.{false≢true}
use Rattle.std.specs.Cmp.{both_ways}
use Rattle.std.specs.FinMap as fin
use Rattle.std.specs.List.{list_any}
use Rattle.std.specs.Ordering.{eq_by_cmp}
use Rattle.std.proofs.lemmas.List.Folds.{list_any-append}
use Rattle.cell_addr.proofs.Places.{place_cmp-IsTotalOrder, place_cmp-IsAntisymmetric}
use Rattle.cell_addr.proofs.SamePlaces.{same_place-equal, same_place-self}
use Rattle.cell_addr.specs.Order.{place_cmp}
use Rattle.cell_addr.specs.Place.{same_place}
use Rattle.cell_addr.specs.declared.place.Place.{Place}
use Rattle.grid_store.proofs.Exchanges.{get-without_places}
use Rattle.grid_store.proofs.Fills.{first_of_two, get-with}
use Rattle.grid_store.specs.Grid.{with_entries, without_places}
use Rattle.grid_store.specs.declared.cell.Cell.{Cell}
use Rattle.grid_store.specs.internal.Exchange.{is_among}
use Rattle.name_table.specs.Named.{words_of}
use Rattle.shift_core.proofs.CarriedEntries.{eq_by_cmp-decides}
use Rattle.shift_core.proofs.MovedMaps.{find_place}
use Rattle.shift_core.specs.Maps.{PlaceMap}
use Rattle.undo_book.specs.History.{History}
use Rattle.kept_book.proofs.Contents.{get-contents}
use Rattle.kept_book.proofs.Joining.{no-shift}
use Rattle.kept_book.specs.Change.{Change, cells_after, cells_before, forth, names_with, places_of, shift_of}
use Rattle.kept_book.specs.Frame.{Frame, Line, named_at, names_seen, numbered_at}
use Rattle.kept_book.specs.Kept.{at_of, frame_of, line_of}
use Rattle.kept_book.specs.Stored.{content_of}
use Rattle.kept_book.specs.Walk.{back_all, forth_all}
use Rattle.kept_book.specs.declared.book.Book.{Book}
use Rattle.kept_steps.specs.Fits.{Fits, start_of, steps_of}
use Rattle.kept_steps.specs.Steps.{AllLeadOn, AllLedHere, AreAhead, ArePast}
use Rattle.kept_steps.specs.Timeline.{Timeline, book_in, timeline_of}
use Rattle.kept_steps.specs.Turned.{AreOfCells, DifferAmong, first_step, is_listed}
use Rattle.kept_steps.specs.declared.entry.Entry.{Entry}

neither : (a b : Bool) → (a || b) ≡ false → (a ≡ false) × (b ≡ false)
neither true b h = absurd (false≢true (sym h))
neither false b h = (refl, h)

-- the two tests of places are one
test-same : (p q : Place) → eq_by_cmp place_cmp p q ≡ same_place p q
test-same p q = both_ways (eq_by_cmp place_cmp p q) (same_place p q)
    (λ h. subst (λ x. same_place p x ≡ true) ((eq_by_cmp-decides place_cmp-IsTotalOrder place_cmp-IsAntisymmetric p q).0 h) (same_place-self p))
    (λ h. (eq_by_cmp-decides place_cmp-IsTotalOrder place_cmp-IsAntisymmetric p q).1 (same_place-equal p q h))

among-same : (p : Place) (ps : List Place) → is_among ps p ≡ list_any (same_place p) ps
among-same p [] = refl
among-same p (q ∷ ps) = (λ i. test-same p q i || among-same p ps i)

-- no entry is found at a place that isn't among theirs
pub not-found : (p : Place) (es : List (Place × Cell)) → list_any (same_place p) (places_of es) ≡ false → find_place p es ≡ None
not-found p [] h = refl
not-found p (e ∷ es) h =
    let n = neither (same_place p e.0) (list_any (same_place p) (places_of es)) h in
    ap (λ b. cond b (Some e.1) (find_place p es)) (test-same p e.0 ∙ n.0) ∙ not-found p es n.1

-- places that are neither emptied nor filled have what they had
left-there : (p : Place) (put gone : List (Place × Cell)) (m : PlaceMap Cell) → list_any (same_place p) (places_of put) ≡ false → list_any (same_place p) (places_of gone) ≡ false
    → fin.get (with_entries put (without_places (places_of gone) m)) p ≡ fin.get m p
left-there p put gone m beside_put beside_gone =
    get-with put (without_places (places_of gone) m) p
    ∙ ap (λ r. first_of_two r (fin.get (without_places (places_of gone) m) p)) (not-found p put beside_put)
    ∙ get-without_places (places_of gone) m p
    ∙ ap (λ b. cond b None (fin.get m p)) (among-same p (places_of gone) ∙ beside_gone)

beside-both : (p : Place) (c : Change) → list_any (same_place p) (places_of c.replaced ++ places_of c.written) ≡ false → (list_any (same_place p) (places_of c.replaced) ≡ false) × (list_any (same_place p) (places_of c.written) ≡ false)
beside-both p c h = neither (list_any (same_place p) (places_of c.replaced)) (list_any (same_place p) (places_of c.written)) (sym (list_any-append (same_place p) (places_of c.replaced) (places_of c.written)) ∙ h)

module _ (line : Line) (c : Change) (same : c.to ≡ c.from) (m : PlaceMap Cell) (p : Place) (beside : list_any (same_place p) (places_of c.replaced ++ places_of c.written) ≡ false) where
  left-before : fin.get (cells_before (shift_of line c) c m) p ≡ fin.get m p
  left-before = let n = beside-both p c beside in ap (λ o. fin.get (cells_before o c m) p) (no-shift line c same) ∙ left-there p c.replaced c.written m n.0 n.1

  left-after : fin.get (cells_after (shift_of line c) c m) p ≡ fin.get m p
  left-after = let n = beside-both p c beside in ap (λ o. fin.get (cells_after o c m) p) (no-shift line c same) ∙ left-there p c.written c.replaced m n.1 n.0

-- two frames are the same but for cells that the changes list, and for their sheets
pub record SameBeside (cs : List Change) (f g : Frame) : Type 0 where
  pub position : g.position ≡ f.position
  pub names : g.names ≡ f.names
  pub cells : (p : Place) → is_listed cs p ≡ false → fin.get g.cells p ≡ fin.get f.cells p

module _ (t : Timeline) where
  pub back-beside : (cs : List Change) (f : Frame) → AllLedHere t cs f → AreOfCells cs → SameBeside cs f (back_all t.line cs f)
  back-beside [] f led alone = record { position = refl; names = refl; cells = λ p beside. refl }
  back-beside (c ∷ cs) f led alone =
      let g = back_all t.line cs f in
      let rest = back-beside cs f led.0 alone.1 in
      record {
        position = sym alone.0.position ∙ led.1.same.position ∙ rest.position;
        names = ap (λ l. names_with (λ x. x.0) l g.names) alone.0.names ∙ rest.names;
        cells = λ p beside.
            let n = neither (list_any (same_place p) (places_of c.replaced ++ places_of c.written)) (is_listed cs p) beside in
            left-before t.line c alone.0.position g.cells p n.0 ∙ rest.cells p n.1;
      }

  pub forth-beside : (cs : List Change) (f : Frame) → AllLeadOn t cs f → AreOfCells cs → SameBeside cs f (forth_all t.line cs f)
  forth-beside [] f lead alone = record { position = refl; names = refl; cells = λ p beside. refl }
  forth-beside (c ∷ cs) f lead alone =
      let rest = forth-beside cs (forth t.line c f) lead.1 alone.1 in
      record {
        position = rest.position ∙ alone.0.position ∙ lead.0.same.position;
        names = rest.names ∙ ap (λ l. names_with (λ x. x.1) l f.names) alone.0.names;
        cells = λ p beside.
            let n = neither (list_any (same_place p) (places_of c.replaced ++ places_of c.written)) (is_listed cs p) beside in
            rest.cells p n.1 ∙ left-after t.line c alone.0.position f.cells p n.0;
      }

-- the workbooks of such frames differ in these cells, and in their sheets
pub differ : (t u : Timeline) (cs : List Change) (f g : Frame) → u.at ≡ t.at → u.words ≡ t.words → SameBeside cs f g → DifferAmong (is_listed cs) (book_in t f) (book_in u g)
differ t u cs f g at words same = record {
  names = λ i. names_seen (words i) (named_at (at i) (same.position i)) (same.names i);
  cells = λ p beside.
      get-contents (numbered_at u.at g.position) g.cells p
      ∙ (λ i. option_map (content_of (numbered_at (at i) (same.position i))) (same.cells p beside i))
      ∙ sym (get-contents (numbered_at t.at f.position) f.cells p);
}

pub first-led : (t : Timeline) (f : Frame) (es : List (List Change)) → ArePast t f es → AllLedHere t (first_step es) f
first-led t f [] past = tt
first-led t f (e ∷ es) past = past.0

pub first-lead : (t : Timeline) (f : Frame) (es : List (List Change)) → AreAhead t f es → AllLeadOn t (first_step es) f
first-lead t f [] ahead = tt
first-lead t f (e ∷ es) ahead = ahead.0

module _ (old new : Book) (h : History Entry) (b : Option Entry) (fits : Fits old h b) (standings : (id k : ℕ) → at_of new id k ≡ at_of old id k) (words : words_of new.names ≡ words_of old.names) where
  -- after a step back over cells alone
  pub differ-back : b ≡ None → frame_of new ≡ back_all (line_of old) (first_step (steps_of h.done)) (frame_of old) → AreOfCells (first_step (steps_of h.done))
      → DifferAmong (is_listed (first_step (steps_of h.done))) (book_in (timeline_of old) (frame_of old)) (book_in (timeline_of new) (frame_of new))
  differ-back none is alone =
      let t = timeline_of old in
      let past = subst (λ o. ArePast t (start_of t o (frame_of old)) (steps_of h.done)) none fits.past in
      differ t (timeline_of new) (first_step (steps_of h.done)) (frame_of old) (frame_of new) (λ i id k. standings id k i) words
      (subst (SameBeside (first_step (steps_of h.done)) (frame_of old)) (sym is) (back-beside t (first_step (steps_of h.done)) (frame_of old) (first-led t (frame_of old) (steps_of h.done) past) alone))

  -- and after one forth
  pub differ-forth : frame_of new ≡ forth_all (line_of old) (first_step (steps_of h.undone)) (frame_of old) → AreOfCells (first_step (steps_of h.undone))
      → DifferAmong (is_listed (first_step (steps_of h.undone))) (book_in (timeline_of old) (frame_of old)) (book_in (timeline_of new) (frame_of new))
  differ-forth is alone =
      let t = timeline_of old in
      differ t (timeline_of new) (first_step (steps_of h.undone)) (frame_of old) (frame_of new) (λ i id k. standings id k i) words
      (subst (SameBeside (first_step (steps_of h.undone)) (frame_of old)) (sym is) (forth-beside t (first_step (steps_of h.undone)) (frame_of old) (first-lead t (frame_of old) (steps_of h.undone) fits.ahead) alone))
