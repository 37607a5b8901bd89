-- A change that is one structural operation: the workbook after it is the one that the operation makes of the workbook before it. Serves undo and redo.
use Rattle.std.proofs.Common.{◌≡◌, ◌∙◌, sym, ap, subst, refl, arith, is_some, nat_lt, ℕ, ◌+◌, ◌||◌, Bool, true, false, cond, List, [], ◌∷◌, ◌++◌, filter_map, Option, Some, None, option_map, IsSome}
use Rattle.std.proofs.lemmas.Bool.{false≢true}
use Rattle.std.proofs.lemmas.Option.{none-some}
use Rattle.std.specs.FinMap as fin
use Rattle.std.specs.List.{list_any}
use Rattle.std.specs.Prelude.{IfSome, nat_eq, option_and_then}
use Rattle.std.specs.HashMap as hash
use Rattle.cell_addr.proofs.Places.{place_cmp-IsTotalOrder, place_cmp-IsAntisymmetric}
use Rattle.cell_addr.specs.Place.{same_place}
use Rattle.cell_addr.specs.declared.place.Place.{Place}
use Rattle.grid_store.specs.declared.cell.Cell.{Cell}
use Rattle.lazy_store.proofs.Facts.{standings-follow}
use Rattle.lazy_store.proofs.Stepping.{lowest-below}
use Rattle.lazy_store.specs.Kept.{at}
use Rattle.lazy_store.specs.Holders.{kept_of}
use Rattle.lazy_store.specs.Standing.{Standing, after}
use Rattle.lazy_store.specs.Store.{at_in}
use Rattle.lazy_store.specs.declared.holder.Holder.{Holder}
use Rattle.lazy_store.specs.declared.lazy.Lazy.{Lazy}
use Rattle.name_table.specs.Words.{AreWords}
use Rattle.name_table.specs.declared.key.NameKey.{NameKey}
use Rattle.shift_core.proofs.CarriedEntries.{find-carried_nowhere}
use Rattle.shift_core.proofs.MovedMaps.{each_place, find-behind, find_place}
use Rattle.shift_core.proofs.PlaceLaws.{place_returned_goes}
use Rattle.shift_core.specs.Form.{form_of}
use Rattle.shift_core.specs.Maps.{AreInside, PlaceMap, entry_before, moved_map, restored_map}
use Rattle.shift_core.specs.Sound.{IsSound}
use Rattle.shift_core.specs.Tables.{place_after, place_before}
use Rattle.shift_core.specs.declared.shift.Shift.{Shift}
use Rattle.shift_line.specs.Track.{shift_at}
use Rattle.book_model.specs.Changes.{sheets_left, shifted}
use Rattle.kept_book.proofs.Moving.{moved-book, moved-stands}
use Rattle.kept_book.proofs.ShiftedContents.{filled_cell}
use Rattle.kept_book.specs.Change.{Change, Joins, cells_after, cells_before, id_stays, places_of, shift_of}
use Rattle.kept_book.specs.Frame.{At, Frame, Line, Words, book_at, names_seen, numbered_at, stood_of, tree_named}
use Rattle.kept_book.specs.Stored.{book_of}
use Rattle.kept_book.specs.Walk.{Leads}
use Rattle.kept_book.specs.declared.book.Book.{Book}
use Rattle.kept_steps.proofs.Agreeing.{book_same}
use Rattle.kept_steps.proofs.CellsTurned.{not-found}
use Rattle.kept_steps.proofs.Sessions.{any_formula}
use Rattle.kept_steps.specs.Timeline.{Agree, StandIn, Timeline, book_in, timeline_of}
use Rattle.kept_steps.specs.Turned.{ListsLost, Operates}

-- the operation of a change is the line's at its position
shift-here : (line : Line) (c : Change) (s : Shift) → shift_of line c ≡ Some s → line c.from ≡ Some s
shift-here line c s = by (nat_lt c.from c.to)
  where
    by : (b : Bool) → cond b (line c.from) None ≡ Some s → line c.from ≡ Some s
    by true h = h
    by false h = absurd (none-some s h)

-- ---- formulas that have a standing follow an operation of the line

pub follows-on : (store : Lazy) (id k : ℕ) (x : Standing) (s : Shift) → at_in store id k ≡ Some x → shift_at store.line k ≡ Some s → at_in store id (k + 1) ≡ after s x
follows-on store id k x s there is = by (hash.get nat_eq store.holders id) refl there
  where
    by : (r : Option Holder) → hash.get nat_eq store.holders id ≡ r → option_and_then (λ h. at store.line h k) (option_map kept_of r) ≡ Some x → option_and_then (λ h. at store.line h (k + 1)) (option_map kept_of r) ≡ after s x
    by None e h = absurd (none-some x h)
    by (Some holder) e h =
        let coherent = store.coherent id holder e in
        let from = lowest-below store.line (kept_of holder) k coherent (λ none. none-some x (sym none ∙ h)) in
        standings-follow.next store.line (kept_of holder) k store.sound coherent from
        ∙ ap (option_and_then (λ y. option_and_then (λ t. after t y) (shift_at store.line k))) h
        ∙ ap (option_and_then (λ t. after t x)) is

-- the standings of those formulas alone that have one at a position
abbrev only : ℕ → At → At
only k told id j = option_and_then (λ x. told id j) (told id k)

only-here : (k : ℕ) (told : At) (id : ℕ) → only k told id k ≡ told id k
only-here k told id = by (told id k) refl
  where
    by : (r : Option Standing) → told id k ≡ r → option_and_then (λ x. told id k) r ≡ r
    by None e = refl
    by (Some x) e = e

only-some : (k : ℕ) (told : At) (id j : ℕ) (y : Standing) → only k told id j ≡ Some y → told id j ≡ Some y
only-some k told id j y = by (told id k)
  where
    by : (r : Option Standing) → option_and_then (λ x. told id j) r ≡ Some y → told id j ≡ Some y
    by None e = absurd (none-some y e)
    by (Some x) e = e

module _ (store : Lazy) (words : Words) (h : AreWords words) (s : Shift) (f g : Frame) (stand : StandIn (record { line = shift_at store.line; at = at_in store; words = words }) f) (inside : AreInside f.cells)
    (here : shift_at store.line f.position ≡ Some s) (position : g.position ≡ f.position + 1) (cells : g.cells ≡ moved_map s f.cells) (sheets : g.sheets ≡ sheets_left (form_of s) f.sheets)
    (gone : (key : NameKey) → fin.get g.names key ≡ cond (id_stays (form_of s) key) (fin.get f.names key) None) where
  abbrev all : At
  all = at_in store

  abbrev some : At
  some = only f.position (at_in store)

  same : (id : ℕ) → some id f.position ≡ all id f.position
  same id = only-here f.position all id

  -- they have their standings one after the other, and show the same workbooks
  some-next : (id : ℕ) → some id (f.position + 1) ≡ option_and_then (after s) (some id f.position)
  some-next id = by (all id f.position) refl
    where
      by : (r : Option Standing) → all id f.position ≡ r → option_and_then (λ x. all id (f.position + 1)) r ≡ option_and_then (after s) (option_and_then (λ x. all id f.position) r)
      by None e = refl
      by (Some x) e = follows-on store id f.position x s e here ∙ sym (ap (option_and_then (after s)) e)

  some-shown : book_at some words f ≡ book_at all words f
  some-shown i = book_of (record {
    stands = λ id. option_and_then stood_of (same id i);
    cells = f.cells;
    sheets = f.sheets;
    names = names_seen words (λ id. tree_named (same id i)) f.names;
  })

  some-stand : StandIn (record { line = shift_at store.line; at = some; words = words }) f
  some-stand = record {
    cells = λ p id e. subst (λ r. option_map (λ x. x.0) (option_and_then stood_of r) ≡ Some p) (sym (same id)) (stand.cells p id e);
    names = λ key id e. let named = stand.names key id e in record {
      known = named.known;
      scoped = named.scoped;
      home = ap (option_map (λ x. x.home)) (same id) ∙ named.home;
    };
  }

  shown-inside : AreInside (book_at some words f).cells
  shown-inside p has = inside p (filled_cell (numbered_at some f.position) f.cells p has)

  agree : Agree any_formula 0 g.position (record { line = shift_at store.line; at = some; words = words }) (record { line = shift_at store.line; at = all; words = words })
  agree = record { line = λ j low high. refl; at = λ id j x any low high e. only-some f.position all id j x e; words = λ i w e. e }

  pub moved-on : IsSound s → book_at all words g ≡ shifted s (book_at all words f)
  moved-on sound =
      let stands = moved-stands s f g some some words h some-next sound shown-inside some-stand position cells sheets gone in
      book_same any_formula 0 g.position (record { line = shift_at store.line; at = some; words = words }) (record { line = shift_at store.line; at = all; words = words }) agree g (λ id x. tt) (omega arith) (omega arith) stands
      ∙ moved-book s f g some some words h some-next sound shown-inside some-stand position cells sheets gone
      ∙ ap (shifted s) some-shown

-- ---- a cell that the operation loses is one of those that were listed

lost-listed : (s : Shift) (lost : List (Place × Cell)) (m : PlaceMap Cell) (p : Place) → IsSound s → AreInside m → place_after s p ≡ None → IsSome (fin.get (restored_map s lost m) p) → list_any (same_place p) (places_of lost) ≡ true
lost-listed s lost m p sound inside gone has = by (list_any (same_place p) (places_of lost)) refl
  where
    nowhere : find_place p (filter_map (entry_before s) (fin.entries m)) ≡ None
    nowhere = find-carried_nowhere place_cmp-IsTotalOrder place_cmp-IsAntisymmetric (place_before s) p (fin.entries m)
        (each_place (λ q. place_before s q ≡ Some p → ⊥) (fin.entries m) (λ q has back. none-some q (sym gone ∙ place_returned_goes (form_of s) p q sound (inside q (subst IsSome (sym (fin.get-entries m q)) has)) back)))

    by : (b : Bool) → list_any (same_place p) (places_of lost) ≡ b → b ≡ true
    by true e = refl
    by false e =
        let none : fin.get (restored_map s lost m) p ≡ None =
        fin.get-from_entries place_cmp-IsTotalOrder (lost ++ filter_map (entry_before s) (fin.entries m)) p ∙ find-behind p lost (filter_map (entry_before s) (fin.entries m)) (not-found p lost e) ∙ nowhere in
        absurd (false≢true (sym (ap (λ r. is_some r) none) ∙ has))

-- ---- changes of a workbook

module _ (b : Book) where
  abbrev t : Timeline
  t = timeline_of b

  -- the operation of a change can be done
  pub shift-sound : (c : Change) (o : Option Shift) → o ≡ shift_of t.line c → IfSome o IsSound
  shift-sound c None is = tt
  shift-sound c (Some s) is = b.lazy.sound c.from s (shift-here t.line c s (sym is))

  operates-one : (c : Change) (s : Shift) (f g : Frame) → Joins t.line t.words c f g → StandIn t f → AreInside f.cells → shift_of t.line c ≡ Some s → IsSound s × (book_in t g ≡ shifted s (book_in t f))
  operates-one c s f g joins stand inside is =
      let here = shift-here t.line c s is in
      let from : c.from ≡ f.position = ap (λ (x : Frame). x.position) joins.before in
      let by = joins.operation s is in
      let cells : g.cells ≡ moved_map s f.cells = sym (ap (λ (x : Frame). x.cells) joins.after) ∙ ap (λ o. cells_after o c f.cells) is in
      let sound = b.lazy.sound c.from s here in (
        sound,
        moved-on b.lazy t.words b.names.words.proper s f g stand inside (ap t.line (sym from) ∙ here) by.position cells by.sheets by.names sound,
      )

  pub operates : (cs : List Change) (f g : Frame) → Leads t.line t.words cs f g → StandIn t f → AreInside f.cells → Operates t.line cs (book_in t f) (book_in t g)
  operates [] f g leads stand inside s is = absurd (none-some s is)
  operates (c ∷ []) f g leads stand inside s is = subst (λ x. IsSound s × (book_in t x ≡ shifted s (book_in t f))) leads.2 (operates-one c s f leads.0 leads.1 stand inside is)
  operates (c ∷ d ∷ cs) f g leads stand inside s is = absurd (none-some s is)

  lost-one : (c : Change) (s : Shift) (f g : Frame) (p : Place) → Joins t.line t.words c f g → AreInside g.cells → shift_of t.line c ≡ Some s → place_after s p ≡ None → IsSome (fin.get f.cells p) → list_any (same_place p) (places_of c.replaced) ≡ true
  lost-one c s f g p joins inside is gone has =
      let cells : f.cells ≡ restored_map s c.replaced g.cells = sym (ap (λ (x : Frame). x.cells) joins.before) ∙ ap (λ o. cells_before o c g.cells) is in
      lost-listed s c.replaced g.cells p (b.lazy.sound c.from s (shift-here t.line c s is)) inside gone (subst (λ m. IsSome (fin.get m p)) cells has)

  pub lists-lost : (cs : List Change) (f g : Frame) → Leads t.line t.words cs f g → AreInside g.cells → ListsLost t.line cs (book_in t f)
  lists-lost [] f g leads inside s p is gone has = absurd (none-some s is)
  lists-lost (c ∷ []) f g leads inside s p is gone has =
      ap (λ x. x || false) (lost-one c s f leads.0 p leads.1 (subst (λ (x : Frame). AreInside x.cells) (sym leads.2) inside) is gone (filled_cell (numbered_at t.at f.position) f.cells p has))
  lists-lost (c ∷ d ∷ cs) f g leads inside s p is gone has = absurd (none-some s is)
