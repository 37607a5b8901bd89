-- Cells that are set, and blocks that are emptied: what is replaced, and the contents then. Serves the calls that set and clear
-- cells.
use Rattle.std.proofs.Common.{◌≡◌, ◌∙◌, sym, ap, subst, refl, arith, ℕ, ◌-◌, ◌==◌, ◌||◌, Bool, true, false, cond, not, List, [], ◌∷◌, map, Option, Some, None, option_map, is_some, IsSome}
use Rattle.std.proofs.lemmas.Bool.Decides.{nat_tests}
use Rattle.std.proofs.lemmas.List.Elements.{All-cons, All-head, All-tail}
use Rattle.std.specs.FinMap as fin
use Rattle.std.specs.FinMap.{find, get-insert, get-remove, get-retain_keys, same_map}
use Rattle.std.specs.FinMap.Entries.{is_some-find}
use Rattle.std.specs.List.{All, cons_option}
use Rattle.std.specs.Ordering.{eq_by_cmp}
use Rattle.cell_addr.proofs.Places.{place_cmp-IsTotalOrder, place_cmp-IsAntisymmetric}
use Rattle.cell_addr.specs.Order.{place_cmp}
use Rattle.cell_addr.specs.Place.{IsInside, covers}
use Rattle.cell_addr.specs.declared.place.Block.{Block}
use Rattle.cell_addr.specs.declared.place.Place.{Place}
use Rattle.cell_addr.specs.declared.place.TheConstants.{COLS, ROWS}
use Rattle.book_values.specs.Book.{Content}
use Rattle.clip_board.specs.declared.clip.CopyItem.{CopyItem}
use Rattle.grid_store.proofs.Exchanges.{get-without_places}
use Rattle.grid_store.proofs.PlaceMaps.{same_places}
use Rattle.grid_store.specs.Grid.{within, without_places}
use Rattle.grid_store.specs.declared.cell.Cell.{Cell}
use Rattle.grid_store.specs.internal.Exchange.{is_among}
use Rattle.shift_core.proofs.CarriedEntries.{eq_by_cmp-decides}
use Rattle.shift_core.specs.Maps.{AreInside, PlaceMap}
use Rattle.book_model.specs.Changes.{placed}
use Rattle.kept_book.specs.Change.{places_of}
use Rattle.kept_book.specs.Numbered.{Numbered}
use Rattle.kept_book.specs.Stored.{content_of, contents_of}
use Rattle.kept_book.specs.internal.Cells.{listed_at, with_given}
use Rattle.kept_book.specs.internal.Writing.{AreReplaced}
use Rattle.kept_book.proofs.Contents.{get-contents, same_contents}
use Rattle.kept_book.proofs.Emptying.{found_within}

is-place : (q at : Place) → eq_by_cmp place_cmp q at ≡ true → q ≡ at
is-place q at h = (eq_by_cmp-decides place_cmp-IsTotalOrder place_cmp-IsAntisymmetric q at).0 h

itself : (q at : Place) → q ≡ at → eq_by_cmp place_cmp q at ≡ true
itself q at h = (eq_by_cmp-decides place_cmp-IsTotalOrder place_cmp-IsAntisymmetric q at).1 h

-- the place of each of these is the one
among-at : (items : List (Place × CopyItem)) (at q : Place) → All (λ e. e.0 ≡ at) items → is_among (map (λ e. e.0) items) q ≡ true → q ≡ at
among-at [] at q all e = cc
among-at (x ∷ items) at q all e = go (eq_by_cmp place_cmp q x.0) refl (among-at items at q (All-tail (λ f. f.0 ≡ at) x items all)) e
  where
    go : (b : Bool) → eq_by_cmp place_cmp q x.0 ≡ b → (is_among (map (λ f. f.0) items) q ≡ true → q ≡ at) → (b || is_among (map (λ f. f.0) items) q) ≡ true → q ≡ at
    go true t more f = is-place q x.0 t ∙ All-head (λ f. f.0 ≡ at) x items all
    go false t more f = more f

find-listed : (at q : Place) (r : Option Cell) → find place_cmp q (listed_at at r) ≡ cond (eq_by_cmp place_cmp q at) r None
find-listed at q None = none (eq_by_cmp place_cmp q at)
  where
    none : (b : Bool) → ◌≡◌ {A = Option Cell} None (cond b None None)
    none true = refl
    none false = refl
find-listed at q (Some c) = refl

-- what the cell held is what is replaced where it is given something
pub one-replaced : (m : PlaceMap Cell) (at : Place) (items : List (Place × CopyItem)) → All (λ e. e.0 ≡ at) items → AreReplaced m (listed_at at (fin.get m at)) (map (λ e. e.0) items)
one-replaced m at items all = record {
  listed = λ q some. find-listed at q (fin.get m at) ∙ go q (eq_by_cmp place_cmp q at) refl (subst IsSome (find-listed at q (fin.get m at)) some);
  there = λ q among.
      let same = among-at items at q all among in
      find-listed at q (fin.get m at) ∙ ap (λ b. cond b (fin.get m at) None) (itself q at same) ∙ ap (fin.get m) (sym same);
}
  where
    go : (q : Place) (b : Bool) → eq_by_cmp place_cmp q at ≡ b → IsSome (cond b (fin.get m at) None) → cond b (fin.get m at) None ≡ fin.get m q
    go q true t some = ap (fin.get m) (sym (is-place q at t))
    go q false t some = cc

among-listed : (at q : Place) (r : Option Cell) → is_among (places_of (listed_at at r)) q ≡ is_some (cond (eq_by_cmp place_cmp q at) r None)
among-listed at q r = sym (is_some-find place_cmp q (listed_at at r)) ∙ ap is_some (find-listed at q r)

-- a content that is given to a cell, once what it held is gone
pub given-placed : (one : Numbered) (m : PlaceMap Cell) (at : Place) (x : Option Content)
    → with_given (cons_option (option_map (λ y. (at, y)) x) []) (without_places (places_of (listed_at at (fin.get m at))) (contents_of one m)) ≡ placed at x (contents_of one m)
given-placed one m at x = go x
  where
    gone : (q : Place) (b : Bool) → eq_by_cmp place_cmp q at ≡ b
        → cond (is_some (cond b (fin.get m at) None)) None (fin.get (contents_of one m) q) ≡ cond b None (fin.get (contents_of one m) q)
    gone q true t = by (fin.get m at) (get-contents one m q ∙ ap (λ p. option_map (content_of one) (fin.get m p)) (is-place q at t))
      where
        by : (r : Option Cell) → fin.get (contents_of one m) q ≡ option_map (content_of one) r → cond (is_some r) None (fin.get (contents_of one m) q) ≡ None
        by None e = e
        by (Some c) e = refl
    gone q false t = refl

    emptied : (q : Place) → fin.get (without_places (places_of (listed_at at (fin.get m at))) (contents_of one m)) q ≡ cond (eq_by_cmp place_cmp q at) None (fin.get (contents_of one m) q)
    emptied q =
        get-without_places (places_of (listed_at at (fin.get m at))) (contents_of one m) q
        ∙ ap (λ b. cond b None (fin.get (contents_of one m) q)) (among-listed at q (fin.get m at)) ∙ gone q (eq_by_cmp place_cmp q at) refl

    over : (b : Bool) (y : Content) (r : Option Content) → cond b (Some y) (cond b None r) ≡ cond b (Some y) r
    over true y r = refl
    over false y r = refl

    go : (x : Option Content) → with_given (cons_option (option_map (λ y. (at, y)) x) []) (without_places (places_of (listed_at at (fin.get m at))) (contents_of one m)) ≡ placed at x (contents_of one m)
    go None = same_contents _ _ (λ q. emptied q ∙ sym (get-remove place_cmp-IsTotalOrder (contents_of one m) at q))
    go (Some y) = same_contents _ _ (λ q.
        get-insert place_cmp-IsTotalOrder (without_places (places_of (listed_at at (fin.get m at))) (contents_of one m)) at y q
        ∙ ap (cond (eq_by_cmp place_cmp q at) (Some y)) (emptied q) ∙ over (eq_by_cmp place_cmp q at) y (fin.get (contents_of one m) q)
        ∙ sym (get-insert place_cmp-IsTotalOrder (contents_of one m) at y q))

-- a cell that is placed over what its place held
pub placed-over : (m : PlaceMap Cell) (at : Place) (c : Cell) → fin.insert m at c ≡ fin.insert (without_places (places_of (listed_at at (fin.get m at))) m) at c
placed-over m at c = same_places _ _ (λ q.
    get-insert place_cmp-IsTotalOrder m at c q ∙ go q (eq_by_cmp place_cmp q at)
    ∙ ap (cond (eq_by_cmp place_cmp q at) (Some c))
    (sym (get-without_places (places_of (listed_at at (fin.get m at))) m q ∙ ap (λ b. cond b None (fin.get m q)) (among-listed at q (fin.get m at))))
    ∙ sym (get-insert place_cmp-IsTotalOrder (without_places (places_of (listed_at at (fin.get m at))) m) at c q))
  where
    go : (q : Place) (b : Bool) → cond b (Some c) (fin.get m q) ≡ cond b (Some c) (cond (is_some (cond b (fin.get m at) None)) None (fin.get m q))
    go q true = refl
    go q false = refl

pub listed-inside : (at : Place) (r : Option Cell) → IsInside at → All (λ e. IsInside e.0) (listed_at at r)
listed-inside at None inside = λ k d l. absurd (omega arith)
listed-inside at (Some c) inside = All-cons (λ e. IsInside e.0) (at, c) [] inside (λ k d l. absurd (omega arith))

-- the cells of a block are what is replaced as it is emptied, whatever comes to cells of the block
pub block-replaced : (m : PlaceMap Cell) (area : Block) (places : List Place) → ((q : Place) → is_among places q ≡ true → covers area q ≡ true) → AreReplaced m (fin.entries (within area m)) places
block-replaced m area places inside = record {
  listed = λ q some. found_within area m q ∙ go q (covers area q) (subst IsSome (found_within area m q) some);
  there = λ q among. found_within area m q ∙ ap (λ b. cond b (fin.get m q) None) (inside q among);
}
  where
    go : (q : Place) (b : Bool) → IsSome (cond b (fin.get m q) None) → cond b (fin.get m q) None ≡ fin.get m q
    go q true some = refl
    go q false some = cc

-- the contents without those of a block
pub block-emptied : (one : Numbered) (m : PlaceMap Cell) (area : Block)
    → without_places (places_of (fin.entries (within area m))) (contents_of one m) ≡ fin.retain_keys (contents_of one m) (λ p. not (covers area p))
block-emptied one m area = same_contents _ _ (λ q.
    get-without_places (places_of (fin.entries (within area m))) (contents_of one m) q
    ∙ ap (λ b. cond b None (fin.get (contents_of one m) q)) (sym (is_some-find place_cmp q (fin.entries (within area m))) ∙ ap is_some (found_within area m q))
    ∙ go q (covers area q) (fin.get m q) (get-contents one m q)
    ∙ sym (get-retain_keys (contents_of one m) (λ p. not (covers area p)) q (λ x t. ap (λ r. not (covers area r)) (sym (place_cmp-IsAntisymmetric q x t)))))
  where
    go : (q : Place) (b : Bool) (r : Option Cell) → fin.get (contents_of one m) q ≡ option_map (content_of one) r
        → cond (is_some (cond b r None)) None (fin.get (contents_of one m) q) ≡ cond (not b) (fin.get (contents_of one m) q) None
    go q true None e = e
    go q true (Some c) e = refl
    go q false r e = refl

-- all places of a sheet
abbrev pub whole : ℕ → Block
whole sheet = record { sheet = sheet; top = 0; left = 0; bottom = ROWS - 1; right = COLS - 1 }

covers-same : (sheet : ℕ) (p : Place) → IsInside p → covers (whole sheet) p ≡ (p.sheet == sheet)
covers-same sheet p i = grind (arith, nat_tests)

module _ {X : Type 0} (m : PlaceMap X) (sheet : ℕ) (inside : AreInside m) where
  none-either : (b c : Bool) → cond {A = Option X} b None None ≡ cond c None None
  none-either true true = refl
  none-either true false = refl
  none-either false true = refl
  none-either false false = refl

  -- the cells of a sheet are those of all its places
  pub sheet-kept : fin.retain_keys m (covers (whole sheet)) ≡ fin.retain_keys m (λ p. p.sheet == sheet)
  sheet-kept = same_map place_cmp-IsTotalOrder place_cmp-IsAntisymmetric _ _ (λ q.
      get-retain_keys m (covers (whole sheet)) q (λ x t. ap (covers (whole sheet)) (sym (place_cmp-IsAntisymmetric q x t)))
      ∙ go q (fin.get m q) refl
      ∙ sym (get-retain_keys m (λ p. p.sheet == sheet) q (λ x t. ap (λ r. r.sheet == sheet) (sym (place_cmp-IsAntisymmetric q x t)))))
    where
      go : (q : Place) (r : Option X) → fin.get m q ≡ r → cond (covers (whole sheet) q) r None ≡ cond (q.sheet == sheet) r None
      go q None e = none-either (covers (whole sheet) q) (q.sheet == sheet)
      go q (Some x) e = ap (λ b. cond b (Some x) None) (covers-same sheet q (inside q (ap is_some e)))

  -- to empty them is to empty the sheet
  pub sheet-emptied : fin.retain_keys m (λ p. not (covers (whole sheet) p)) ≡ fin.retain_keys m (λ p. not (p.sheet == sheet))
  sheet-emptied = same_map place_cmp-IsTotalOrder place_cmp-IsAntisymmetric _ _ (λ q.
      get-retain_keys m (λ p. not (covers (whole sheet) p)) q (λ x t. ap (λ r. not (covers (whole sheet) r)) (sym (place_cmp-IsAntisymmetric q x t)))
      ∙ go q (fin.get m q) refl
      ∙ sym (get-retain_keys m (λ p. not (p.sheet == sheet)) q (λ x t. ap (λ r. not (r.sheet == sheet)) (sym (place_cmp-IsAntisymmetric q x t)))))
    where
      go : (q : Place) (r : Option X) → fin.get m q ≡ r → cond (not (covers (whole sheet) q)) r None ≡ cond (not (q.sheet == sheet)) r None
      go q None e = none-either (not (covers (whole sheet) q)) (not (q.sheet == sheet))
      go q (Some x) e = ap (λ b. cond (not b) (Some x) None) (covers-same sheet q (inside q (ap is_some e)))

-- what holds of the places of what is given holds of those of what is written
pub places-all : (P : Place → Type 0) (es : List (Place × Cell)) (items : List (Place × CopyItem)) → places_of es ≡ map (λ e. e.0) items → All (λ e. P e.0) items → All (λ e. P e.0) es
places-all P [] items same all = λ k d l. absurd (omega arith)
places-all P (e ∷ es) [] same all = cc
places-all P (e ∷ es) (x ∷ items) same all =
    let head : e.0 ≡ x.0 = cc in
    let tail : places_of es ≡ map (λ e. e.0) items = cc in
    All-cons (λ e. P e.0) e es (subst P (sym head) (All-head (λ e. P e.0) x items all)) (places-all P es items tail (All-tail (λ e. P e.0) x items all))

pub no-places : (es : List (Place × Cell)) → places_of es ≡ [] → es ≡ []
no-places [] same = refl
no-places (e ∷ es) same = cc
