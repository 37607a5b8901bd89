-- Copied cells that are pasted one after the other. Serves the paste of a copy.
use Rattle.std.proofs.Common.{◌≡◌, ◌∙◌, sym, ap, refl, arith, ℕ, ◌+◌, ◌<◌, Bool, true, false, cond, not, List, [], ◌∷◌, length, get_or, drop, take, map, ◌++◌, ◌||◌, Option, Some, option_map}
use Rattle.std.specs.List.{All, cons_option, filter_map}
use Rattle.std.proofs.lemmas.List.{map-append, take_more}
use Rattle.std.proofs.lemmas.List.Elements.{All-cons, All-head, All-tail, filter_map-append}
use Rattle.std.specs.FinMap as fin
use Rattle.std.specs.FinMap.{find, get-from_entries, get-insert, same_map}
use Rattle.std.specs.Ordering.{eq_by_cmp}
use Rattle.cell_addr.proofs.Places.{place_cmp-IsTotalOrder, place_cmp-IsAntisymmetric}
use Rattle.cell_addr.specs.Order.{place_cmp}
use Rattle.cell_addr.specs.Place.{IsBlockInside, covers}
use Rattle.cell_addr.specs.declared.place.Block.{Block}
use Rattle.cell_addr.specs.declared.place.Place.{Place}
use Rattle.book_values.specs.Book.{Book as Contents, Content}
use Rattle.clip_board.specs.declared.clip.CopyItem.{CopyItem}
use Rattle.grid_store.specs.declared.cell.Cell.{Cell}
use Rattle.grid_store.specs.internal.Exchange.{is_among}
use Rattle.book_model.proofs.Contents.{is_at}
use Rattle.shift_core.proofs.CellMoves.{Covers-from_covers, carried_covered, covers-from_Covers}
use Rattle.shift_core.specs.Carried.{carried_place, destination}
use Rattle.book_model.proofs.PastedCells.{either, get-pasted, over-kept, source_of}
use Rattle.book_model.specs.Changes.{emptied, entry_pasted, pasted_content, with_copy}
use Rattle.book_model.specs.Workbook.{Workbook}
use Rattle.kept_book.specs.Copied.{content_copied, contents_copied, entry_copied}
use Rattle.kept_book.specs.internal.Cells.{with_cells, with_given}

-- where a copied cell comes to, with what it held
abbrev pub item_pasted : List (ℕ × List ℕ) → Block → Place → Place × CopyItem → Option (Place × Content)
item_pasted sheets area at e = entry_pasted sheets area at (entry_copied e)

-- the workbook after the copied cells from a number on were pasted
abbrev pub pasted_from : Block → List (Place × CopyItem) → Place → ℕ → Workbook → Workbook
pasted_from area items at i d = with_cells (with_given (filter_map (item_pasted d.sheets area at) (drop i items)) d.cells) d

one-pasted : (sheets : List (ℕ × List ℕ)) (area : Block) (at : Place) (e : Place × CopyItem) (rest : List (Place × CopyItem)) → covers area e.0 ≡ true
    → filter_map (item_pasted sheets area at) (e ∷ rest) ≡ (carried_place area at e.0, pasted_content sheets e.0 (carried_place area at e.0) (content_copied e.0 e.1)) ∷ filter_map (item_pasted sheets area at) rest
one-pasted sheets area at e rest h = rw h refl

none-pasted : (sheets : List (ℕ × List ℕ)) (area : Block) (at : Place) (e : Place × CopyItem) (rest : List (Place × CopyItem)) → covers area e.0 ≡ false
    → filter_map (item_pasted sheets area at) (e ∷ rest) ≡ filter_map (item_pasted sheets area at) rest
none-pasted sheets area at e rest h = rw h refl

-- what stands at a place after entries came over others
pub get-given : (es : List (Place × Content)) (m : Contents) (q : Place) → fin.get (with_given es m) q ≡ either (find place_cmp q es) (fin.get m q)
get-given [] m q = refl
get-given (e ∷ es) m q = get-insert place_cmp-IsTotalOrder (with_given es m) e.0 e.1 q ∙ go (eq_by_cmp place_cmp q e.0) (get-given es m q)
  where
    go : (b : Bool) → fin.get (with_given es m) q ≡ either (find place_cmp q es) (fin.get m q)
        → cond b (Some e.1) (fin.get (with_given es m) q) ≡ either (cond b (Some e.1) (find place_cmp q es)) (fin.get m q)
    go true h = refl
    go false h = h

both-maps : {X Y Z : Type 0} (f : Y → Option Z) (g : X → Y) (xs : List X) → filter_map (λ x. f (g x)) xs ≡ filter_map f (map g xs)
both-maps f g [] = refl
both-maps f g (x ∷ xs) = ap (λ r. cons_option (f (g x)) r) (both-maps f g xs)

-- to paste all of them where the destination was emptied is to paste the copy
pub pasted_whole : (area : Block) (items : List (Place × CopyItem)) (at : Place) (b : Workbook) → IsBlockInside area
    → pasted_from area items at 0 (emptied (covers (destination area at)) b) ≡ with_copy area (contents_copied items) at b
pasted_whole area items at b inside = ap (λ m. with_cells m b) (same_map place_cmp-IsTotalOrder place_cmp-IsAntisymmetric _ _ (λ q.
    get-given (filter_map (item_pasted b.sheets area at) items) kept q
    ∙ ap (λ es. either (find place_cmp q es) (fin.get kept q)) (both-maps (entry_pasted b.sheets area at) entry_copied items)
    ∙ over-kept area at b (map entry_copied items) q inside
    ∙ ap (λ r. cond (covers (destination area at) q) (option_map (pasted_content b.sheets (source_of area at q) q) r) (fin.get b.cells q)) (sym (get-from_entries place_cmp-IsTotalOrder (map entry_copied items) (source_of area at q)))
    ∙ sym (get-pasted area (contents_copied items) at b q inside)))
  where
    kept : Contents
    kept = fin.retain_keys b.cells (λ p. not (covers (destination area at) p))

-- a cell of the block comes to the destination
pub carried-there : (area : Block) (at p : Place) → covers area p ≡ true → covers (destination area at) (carried_place area at p) ≡ true
carried-there area at p h = covers-from_Covers (destination area at) (carried_place area at p) (carried_covered area at p (Covers-from_covers area p h))

-- what is listed by its places lies in a block where each place does
pub among-covered : (block : Block) (items : List (Place × CopyItem)) (q : Place) → All (λ e. covers block e.0 ≡ true) items → is_among (map (λ e. e.0) items) q ≡ true → covers block q ≡ true
among-covered block [] q all e = cc
among-covered block (x ∷ items) q all e = go (eq_by_cmp place_cmp q x.0) refl (among-covered block items q (All-tail (λ f. covers block f.0 ≡ true) x items all)) e
  where
    go : (b : Bool) → eq_by_cmp place_cmp q x.0 ≡ b → (is_among (map (λ f. f.0) items) q ≡ true → covers block q ≡ true) → (b || is_among (map (λ f. f.0) items) q) ≡ true → covers block q ≡ true
    go true t more f = ap (covers block) (sym (is_at x.0 q t)) ∙ All-head (λ f. covers block f.0 ≡ true) x items all
    go false t more f = more f

-- so do cells that are written at these places
pub places-covered : (block : Block) (written : List (Place × Cell)) (items : List (Place × CopyItem)) → map (λ e. e.0) written ≡ map (λ e. e.0) items → All (λ e. covers block e.0 ≡ true) items
    → All (λ e. covers block e.0 ≡ true) written
places-covered block [] items same all = λ k d l. absurd (omega arith)
places-covered block (w ∷ written) [] same all = cc
places-covered block (w ∷ written) (x ∷ items) same all =
    All-cons (λ e. covers block e.0 ≡ true) w written (ap (covers block) (first same) ∙ All-head (λ f. covers block f.0 ≡ true) x items all)
    (places-covered block written items (rest same) (All-tail (λ f. covers block f.0 ≡ true) x items all))
  where
    first : w.0 ∷ map (λ e. e.0) written ≡ x.0 ∷ map (λ e. e.0) items → w.0 ≡ x.0
    first e = cc

    rest : w.0 ∷ map (λ e. e.0) written ≡ x.0 ∷ map (λ e. e.0) items → map (λ e. e.0) written ≡ map (λ e. e.0) items
    rest e = cc

-- one copied cell more, taken from the first on
pub pasted-next : (sheets : List (ℕ × List ℕ)) (area : Block) (at : Place) (items : List (Place × CopyItem)) (i : ℕ) (e : Place × CopyItem) (to : Place) (x : CopyItem) (old new : List (Place × CopyItem)) → i < length items → e ≡ get_or items i e
    → covers area e.0 ≡ true → to ≡ carried_place area at e.0 → content_copied to x ≡ pasted_content sheets e.0 to (content_copied e.0 e.1)
    → map entry_copied old ≡ filter_map (item_pasted sheets area at) (take i items) → new ≡ old ++ (to, x) ∷ [] → map entry_copied new ≡ filter_map (item_pasted sheets area at) (take (i + 1) items)
pasted-next sheets area at items i e to x old new inside is here goes holds so push =
    let f = item_pasted sheets area at in
    ap (map entry_copied) push ∙ map-append entry_copied old ((to, x) ∷ []) ∙ ap (λ l. l ++ (to, content_copied to x) ∷ []) so
    ∙ ap (λ y. filter_map f (take i items) ++ (to, y) ∷ []) holds
    ∙ ap (λ q. filter_map f (take i items) ++ (q, pasted_content sheets e.0 q (content_copied e.0 e.1)) ∷ []) goes
    ∙ ap (λ es. filter_map f (take i items) ++ es) (sym (one-pasted sheets area at e [] here)) ∙ sym (filter_map-append f (take i items) (e ∷ []))
    ∙ ap (filter_map f) (sym (take_more items i e inside ∙ ap (λ y. take i items ++ y ∷ []) (sym is)))

-- or one that isn't of the block
pub pasted-over : (sheets : List (ℕ × List ℕ)) (area : Block) (at : Place) (items : List (Place × CopyItem)) (i : ℕ) (e : Place × CopyItem) (old : List (Place × CopyItem)) → i < length items → e ≡ get_or items i e
    → covers area e.0 ≡ false → map entry_copied old ≡ filter_map (item_pasted sheets area at) (take i items) → map entry_copied old ≡ filter_map (item_pasted sheets area at) (take (i + 1) items)
pasted-over sheets area at items i e old inside is other so =
    let f = item_pasted sheets area at in
    so ∙ end (filter_map f (take i items)) ∙ ap (λ es. filter_map f (take i items) ++ es) (sym (none-pasted sheets area at e [] other)) ∙ sym (filter_map-append f (take i items) (e ∷ []))
    ∙ ap (filter_map f) (sym (take_more items i e inside ∙ ap (λ y. take i items ++ y ∷ []) (sym is)))
  where
    end : (l : List (Place × Content)) → l ≡ l ++ []
    end [] = refl
    end (y ∷ l) = ap (λ t. y ∷ t) (end l)
