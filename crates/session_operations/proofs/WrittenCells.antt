-- Texts that are given to many cells: which cells change, how many are filled then, and what refuses it. Serves the call that gives
-- them.
use Rattle.std.proofs.Common.{◌≡◌, ◌∙◌, sym, ap, refl, arith, ℕ, suc, ◌+◌, ◌-◌, ◌<◌, ◌≤◌, ◌==◌, ◌||◌, nat_lt, Bool, true, false, cond, List, [], ◌∷◌, length, get_or, drop, Option, Some, None, option_map, is_some, Bor, option_copied}
use Rattle.std.proofs.lemmas.Bool.{false≢true}
use Rattle.std.proofs.lemmas.Bool.Decides.{nat_tests}
use Rattle.std.proofs.lemmas.List.{drop_all, drop_more}
use Rattle.std.proofs.lemmas.List.Elements.{All-head, All-tail}
use Rattle.std.specs.FinMap as fin
use Rattle.std.specs.FinMap.{len-insert, len-remove}
use Rattle.std.specs.List.{All, list_any}
use Rattle.cell_addr.proofs.Places.{place_cmp-IsTotalOrder}
use Rattle.cell_addr.proofs.SamePlaces.{same_place-self}
use Rattle.cell_addr.specs.Place.{IsInside, same_place}
use Rattle.cell_addr.specs.declared.place.Place.{Place}
use Rattle.book_values.specs.Book.{Book as Contents}
use Rattle.grid_store.specs.declared.cell.Cell.{Cell}
use Rattle.shift_core.specs.Maps.{PlaceMap}
use Rattle.book_model.specs.Changes.{HaveDistinctPlaces, all_placed, placed, with_contents}
use Rattle.book_model.specs.Content.{content_given, content_of as content_said}
use Rattle.book_model.specs.Operation as op
use Rattle.book_model.specs.Refusals.{at_cells, at_place, cause, first_cause, of_texts}
use Rattle.book_model.specs.Workbook.{State}
use Rattle.book_model.specs.declared.refusal.Refusal.TheVariants.{CellLimit, TextLimit}
use Rattle.book_model.proofs.Accepted.{none_in}
use Rattle.book_model.proofs.SoundSteps.{cells_known}
use Rattle.session_values.proofs.Contents.{other_place}
use Rattle.kept_book.specs.Numbered.{Numbered}
use Rattle.kept_book.specs.Stored.{content_of, contents_of}
use Rattle.kept_book.proofs.Contents.{get-contents}
use Rattle.session_values.specs.Touched.{is_place_of}
use Rattle.session_operations.specs.internal.Giving.{counted, counted_all}
use Rattle.session_operations.proofs.Causes.{behind}
use Rattle.session_operations.proofs.FilledCells.{text_gives}

neither : (a b : Bool) → (a || b) ≡ false → (a ≡ false) × (b ≡ false)
neither true b h = cc
neither false b h = (refl, h)

-- no other cell changes
pub elsewhere : (sheets : List (ℕ × List ℕ)) (cells : List (Place × List ℕ)) (m : Contents) (q : Place) → is_place_of (λ e. e.0) cells q ≡ false → fin.get m q ≡ fin.get (all_placed sheets cells m) q
elsewhere sheets [] m q out = refl
elsewhere sheets (e ∷ es) m q out =
    let both = neither (same_place q e.0) (is_place_of (λ x. x.0) es q) out in
    let gives = content_given sheets e.0.sheet (content_said e.1) in
    other_place e.0 q gives m (λ same. false≢true (sym both.0 ∙ ap (same_place q) (sym same) ∙ same_place-self q))
    ∙ elsewhere sheets es (placed e.0 gives m) q both.1

-- so a cell that isn't marked stays, where all of these are
pub unmarked_stays : (sheets : List (ℕ × List ℕ)) (cells : List (Place × List ℕ)) (m : Contents) (q : Place) → (is_place_of (λ e. e.0) cells q ≡ true → ⊥) → fin.get m q ≡ fin.get (all_placed sheets cells m) q
unmarked_stays sheets cells m q out = elsewhere sheets cells m q (isnt (is_place_of (λ e. e.0) cells q) out)
  where
    isnt : (b : Bool) → (b ≡ true → ⊥) → b ≡ false
    isnt true h = absurd (h refl)
    isnt false h = refl

no_bytes : (n : ℕ) → (suc n == 0) ≡ false
no_bytes n = grind (arith, nat_tests)

emptied_one : (b : Bool) (n : ℕ) → counted b true n ≡ cond b (n - 1) n
emptied_one true n = refl
emptied_one false n = refl

filled_one : (b : Bool) (n : ℕ) → counted b false n ≡ cond b n (n + 1)
filled_one true n = refl
filled_one false n = refl

-- how many cells are filled after one text
one_counted : (sheets : List (ℕ × List ℕ)) (at : Place) (text : List ℕ) (m : Contents) → counted (is_some (fin.get m at)) (length text == 0) (fin.len m) ≡ fin.len (placed at (content_given sheets at.sheet (content_said text)) m)
one_counted sheets at [] m = emptied_one (is_some (fin.get m at)) (fin.len m) ∙ sym (len-remove place_cmp-IsTotalOrder m at)
one_counted sheets at (c ∷ cs) m =
    let some = text_gives sheets at.sheet (c ∷ cs) (no_bytes (length cs)) in
    ap (λ b. counted (is_some (fin.get m at)) b (fin.len m)) (no_bytes (length cs)) ∙ filled_one (is_some (fin.get m at)) (fin.len m)
    ∙ sym (len-insert place_cmp-IsTotalOrder m at some.0) ∙ ap (λ r. fin.len (placed at r m)) (sym some.1)

-- and after all of them
all_counted : (sheets : List (ℕ × List ℕ)) (cells : List (Place × List ℕ)) (m now : Contents) → HaveDistinctPlaces cells → All (λ e. fin.get now e.0 ≡ fin.get m e.0) cells
    → counted_all m cells (fin.len now) ≡ fin.len (all_placed sheets cells now)
all_counted sheets [] m now apart same = refl
all_counted sheets (e ∷ es) m now apart same =
    let gives = content_given sheets e.0.sheet (content_said e.1) in
    ap (counted_all m es)
    (ap (λ o. counted (is_some o) (length e.1 == 0) (fin.len now)) (sym (All-head (λ f. fin.get now f.0 ≡ fin.get m f.0) e es same)) ∙ one_counted sheets e.0 e.1 now)
    ∙ all_counted sheets es m (placed e.0 gives now) (λ i j d l within. apart (suc i) (suc j) d (omega arith) (omega arith))
    (λ k d l.
    sym (other_place e.0 (get_or es k d).0 gives now (λ is. apart 0 (suc k) d (omega arith) (omega arith) (sym is))) ∙ All-tail (λ f. fin.get now f.0 ≡ fin.get m f.0) e es same k d l)

pub filled_counted : (sheets : List (ℕ × List ℕ)) (cells : List (Place × List ℕ)) (m : Contents) → HaveDistinctPlaces cells → counted_all m cells (fin.len m) ≡ fin.len (all_placed sheets cells m)
filled_counted sheets cells m apart = all_counted sheets cells m m apart (λ k d l. refl)

-- one text more is counted
pub counted_more : (m : Contents) (cells : List (Place × List ℕ)) (i : ℕ) (e : Place × List ℕ) (count next all : ℕ) → i < length cells → e ≡ get_or cells i e → next ≡ counted (is_some (fin.get m e.0)) (length e.1 == 0) count
    → counted_all m (drop i cells) count ≡ all → counted_all m (drop (i + 1) cells) next ≡ all
counted_more m cells i e count next all inside is one so =
    ap (counted_all m (drop (i + 1) cells)) one ∙ ap (λ es. counted_all m es count) (sym (drop_more cells i e inside ∙ ap (λ x. x ∷ drop (i + 1) cells) (sym is))) ∙ so

-- a cell holds something exactly where its place has a content
pub some_there : (stands : Numbered) (cells : PlaceMap Cell) (at : Place) (r : Option (Bor Cell)) (b : Bool) → option_copied r ≡ fin.get cells at → b ≡ is_some r → b ≡ is_some (fin.get (contents_of stands cells) at)
some_there stands cells at r b same e = e ∙ go r ∙ sym (ap is_some (get-contents stands cells at ∙ ap (option_map (content_of stands)) (sym same)))
  where
    go : (r : Option (Bor Cell)) → is_some r ≡ is_some (option_map (content_of stands) (option_copied r))
    go None = refl
    go (Some x) = refl

-- the cells lie within the limits of a sheet where nothing refuses them
pub written_inside : (d : State) (cells : List (Place × List ℕ)) → cause (op.write_all cells) d ≡ None → All (λ e. IsInside e.0) cells
written_inside d cells e k x l = (cells_known d cells (none_in (at_cells d.book cells) (of_texts d cells) e).0 k x l).0

-- the places from a number on, of which the first has no cause
pub first_passed : (d : State) (cells : List (Place × List ℕ)) (i : ℕ) (e : Place × List ℕ) → i < length cells → e ≡ get_or cells i e → first_cause (at_cells d.book cells) ≡ first_cause (at_cells d.book (drop i cells))
    → first_cause (at_place d e.0) ≡ None → first_cause (at_cells d.book cells) ≡ first_cause (at_cells d.book (drop (i + 1) cells))
first_passed d cells i e inside is so none =
    so ∙ ap (λ es. first_cause (at_cells d.book es)) (drop_more cells i e inside ∙ ap (λ x. x ∷ drop (i + 1) cells) (sym is)) ∙ behind (at_place d e.0) (at_cells d.book (drop (i + 1) cells)) none

pub all_passed : (d : State) (cells : List (Place × List ℕ)) (i : ℕ) → length cells ≤ i → first_cause (at_cells d.book cells) ≡ first_cause (at_cells d.book (drop i cells)) → first_cause (at_cells d.book cells) ≡ None
all_passed d cells i past so = so ∙ ap (λ es. first_cause (at_cells d.book es)) (drop_all i cells past)

-- what refuses texts of which none is too long
pub none_long : (d : State) (cells : List (Place × List ℕ)) → list_any (λ e. nat_lt 8192 (length e.1)) cells ≡ false
    → first_cause (of_texts d cells) ≡ first_cause ((nat_lt 1000000 (fin.len (with_contents cells d.book).cells), CellLimit) ∷ [])
none_long d cells none = ap (λ b. cond b (Some TextLimit) (first_cause ((nat_lt 1000000 (fin.len (with_contents cells d.book).cells), CellLimit) ∷ []))) none

above : (n most : ℕ) → most < n → nat_lt most n ≡ true
above n most h = grind (arith, nat_tests)

within : (n most : ℕ) → n ≤ most → nat_lt most n ≡ false
within n most h = grind (arith, nat_tests)

pub many_filled : (d : State) (cells : List (Place × List ℕ)) (n : ℕ) → n ≡ fin.len (with_contents cells d.book).cells → 1000000 < n
    → first_cause ((nat_lt 1000000 (fin.len (with_contents cells d.book).cells), CellLimit) ∷ []) ≡ Some CellLimit
many_filled d cells n is many = ap (λ k. first_cause ((nat_lt 1000000 k, CellLimit) ∷ [])) (sym is) ∙ ap (λ b. cond b (Some CellLimit) None) (above n 1000000 many)

pub few_filled : (d : State) (cells : List (Place × List ℕ)) (n : ℕ) → n ≡ fin.len (with_contents cells d.book).cells → n ≤ 1000000
    → first_cause ((nat_lt 1000000 (fin.len (with_contents cells d.book).cells), CellLimit) ∷ []) ≡ None
few_filled d cells n is few = ap (λ k. first_cause ((nat_lt 1000000 k, CellLimit) ∷ [])) (sym is) ∙ ap (λ b. cond b (Some CellLimit) None) (within n 1000000 few)
