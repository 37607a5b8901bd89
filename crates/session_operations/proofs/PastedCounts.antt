-- How many cells are filled after copied cells were pasted. Serves the limit on filled cells at a paste.
use Rattle.std.proofs.Common.{◌≡◌, ◌∙◌, sym, ap, refl, arith, ℕ, ◌+◌, ◌-◌, ◌≤◌, Bool, true, false, true≢false, ◌||◌, cond, not, List, [], ◌∷◌, length, filter, map, Option, Some, None, is_some, option_map}
use Rattle.std.specs.FinMap as fin
use Rattle.std.specs.FinMap.{get-insert, len-entries, len-insert, same_map}
use Rattle.std.specs.List.{cons_option, filter_map}
use Rattle.std.specs.Ordering.{eq_by_cmp}
use Rattle.cell_addr.specs.Order.{place_cmp}
use Rattle.cell_addr.specs.Place.{IsBlockInside, covers}
use Rattle.cell_addr.specs.declared.place.Block.{Block}
use Rattle.cell_addr.specs.declared.place.Place.{Place}
use Rattle.cell_addr.proofs.Places.{place_cmp-IsTotalOrder, place_cmp-IsAntisymmetric}
use Rattle.book_values.specs.Book.{Book as Contents, Content}
use Rattle.clip_board.specs.declared.clip.CopyItem.{CopyItem}
use Rattle.grid_store.specs.declared.cell.Cell.{Cell}
use Rattle.grid_store.proofs.PlaceMaps.{entries-kept, get-kept}
use Rattle.shift_core.specs.Carried.{carried_place, destination}
use Rattle.shift_core.specs.Maps.{PlaceMap}
use Rattle.shift_core.proofs.CarriedEntries.{eq_by_cmp-decides}
use Rattle.shift_core.proofs.CellMoves.{Covers-from_covers, carried_covered, covers-from_Covers}
use Rattle.book_model.specs.Changes.{pasted_content, with_copy}
use Rattle.book_model.specs.Workbook.{Workbook}
use Rattle.kept_book.proofs.Contents.{get-contents}
use Rattle.kept_book.proofs.PastedBooks.{item_pasted, pasted_whole}
use Rattle.kept_book.specs.Copied.{content_copied, contents_copied}
use Rattle.kept_book.specs.Numbered.{Numbered}
use Rattle.kept_book.specs.Stored.{content_of, contents_of}
use Rattle.kept_book.specs.internal.Cells.{with_given}
use Rattle.session_operations.specs.internal.Pasting.{count_apart, is_among, place_pasted}
use Rattle.session_operations.proofs.FilledCells.{len-contents}

-- where entries come to
abbrev pub places : List (Place × Content) → List Place
places es = map (λ e. e.0) es

-- a place is filled where an entry comes to it, or it was before
filled-given : (es : List (Place × Content)) (m : Contents) (q : Place) → is_some (fin.get (with_given es m) q) ≡ (is_among (places es) q || is_some (fin.get m q))
filled-given [] m q = refl
filled-given (e ∷ es) m q = ap is_some (get-insert place_cmp-IsTotalOrder (with_given es m) e.0 e.1 q) ∙ go (eq_by_cmp place_cmp q e.0) (filled-given es m q)
  where
    go : (b : Bool) → is_some (fin.get (with_given es m) q) ≡ (is_among (places es) q || is_some (fin.get m q)) → is_some (cond b (Some e.1) (fin.get (with_given es m) q)) ≡ ((b || is_among (places es) q) || is_some (fin.get m q))
    go true h = refl
    go false h = h

-- entries at empty places are as many more as their places
pub count-given : (es : List (Place × Content)) (m : Contents) → ((q : Place) → is_among (places es) q ≡ true → is_some (fin.get m q) ≡ false) → fin.len (with_given es m) ≡ count_apart (places es) + fin.len m
count-given [] m empty = let same : fin.len m ≡ 0 + fin.len m = omega arith in same
count-given (e ∷ es) m empty =
    len-insert place_cmp-IsTotalOrder (with_given es m) e.0 e.1
    ∙ ap (λ b. cond b (fin.len (with_given es m)) (fin.len (with_given es m) + 1)) (filled-given es m e.0 ∙ ap (λ b. is_among (places es) e.0 || b) (empty e.0 here) ∙ or-false (is_among (places es) e.0))
    ∙ go (is_among (places es) e.0) (count-given es m (λ q h. empty q (later q h)))
  where
    or-false : (b : Bool) → (b || false) ≡ b
    or-false true = refl
    or-false false = refl

    or-true : (b : Bool) → (b || true) ≡ true
    or-true true = refl
    or-true false = refl

    here : is_among (places (e ∷ es)) e.0 ≡ true
    here = ap (λ b. b || is_among (places es) e.0) ((eq_by_cmp-decides place_cmp-IsTotalOrder place_cmp-IsAntisymmetric e.0 e.0).1 refl)

    later : (q : Place) → is_among (places es) q ≡ true → is_among (places (e ∷ es)) q ≡ true
    later q h = ap (λ b. eq_by_cmp place_cmp q e.0 || b) h ∙ or-true (eq_by_cmp place_cmp q e.0)

    go : (b : Bool) → fin.len (with_given es m) ≡ count_apart (places es) + fin.len m → cond b (fin.len (with_given es m)) (fin.len (with_given es m) + 1) ≡ cond b (count_apart (places es)) (count_apart (places es) + 1) + fin.len m
    go true h = h
    go false h = omega (arith, h)

-- the places of pasted entries
pasted-places : (sheets : List (ℕ × List ℕ)) (area : Block) (at : Place) (items : List (Place × CopyItem)) → places (filter_map (item_pasted sheets area at) items) ≡ filter_map (place_pasted area at) items
pasted-places sheets area at [] = refl
pasted-places sheets area at (e ∷ items) = go (covers area e.0) (pasted-places sheets area at items)
  where
    go : (b : Bool) → places (filter_map (item_pasted sheets area at) items) ≡ filter_map (place_pasted area at) items
        → places (cons_option (cond b (Some (carried_place area at e.0, pasted_content sheets e.0 (carried_place area at e.0) (content_copied e.0 e.1))) None) (filter_map (item_pasted sheets area at) items))
        ≡ cons_option (cond b (Some (carried_place area at e.0)) None) (filter_map (place_pasted area at) items)
    go true h = ap (λ l. carried_place area at e.0 ∷ l) h
    go false h = h

-- they are in the block there
pasted-there : (area : Block) (at : Place) (items : List (Place × CopyItem)) (q : Place) → is_among (filter_map (place_pasted area at) items) q ≡ true → covers (destination area at) q ≡ true
pasted-there area at [] q h = absurd (true≢false (sym h))
pasted-there area at (e ∷ items) q h = go (covers area e.0) refl h (pasted-there area at items q)
  where
    at_it : (b : Bool) → eq_by_cmp place_cmp q (carried_place area at e.0) ≡ b → covers area e.0 ≡ true → (b || is_among (filter_map (place_pasted area at) items) q) ≡ true
        → (is_among (filter_map (place_pasted area at) items) q ≡ true → covers (destination area at) q ≡ true) → covers (destination area at) q ≡ true
    at_it true same inside any rest =
        ap (covers (destination area at)) ((eq_by_cmp-decides place_cmp-IsTotalOrder place_cmp-IsAntisymmetric q (carried_place area at e.0)).0 same)
        ∙ covers-from_Covers (destination area at) (carried_place area at e.0) (carried_covered area at e.0 (Covers-from_covers area e.0 inside))
    at_it false same inside any rest = rest any

    go : (b : Bool) → covers area e.0 ≡ b → is_among (cons_option (cond b (Some (carried_place area at e.0)) None) (filter_map (place_pasted area at) items)) q ≡ true
        → (is_among (filter_map (place_pasted area at) items) q ≡ true → covers (destination area at) q ≡ true) → covers (destination area at) q ≡ true
    go true inside any rest = at_it (eq_by_cmp place_cmp q (carried_place area at e.0)) refl inside any rest
    go false inside any rest = rest any

-- what passes a test and what doesn't are the whole
parts-of : {X : Type 0} (p : X → Bool) (xs : List X) → length (filter p xs) + length (filter (λ x. not (p x)) xs) ≡ length xs
parts-of p [] = refl
parts-of p (x ∷ xs) = go (p x) (parts-of p xs)
  where
    go : (b : Bool) → length (filter p xs) + length (filter (λ x. not (p x)) xs) ≡ length xs → length (cond b (x ∷ filter p xs) (filter p xs)) + length (cond (not b) (x ∷ filter (λ x. not (p x)) xs) (filter (λ x. not (p x)) xs)) ≡ length (x ∷ xs)
    go true h = omega (arith, h)
    go false h = omega (arith, h)

len-parts : {X : Type 0} (m : PlaceMap X) (p : Place → Bool) → fin.len (fin.retain_keys m p) + fin.len (fin.retain_keys m (λ q. not (p q))) ≡ fin.len m
len-parts m p =
    let a = len-entries (fin.retain_keys m p) in
    let b = len-entries (fin.retain_keys m (λ q. not (p q))) in
    let c = len-entries m in
    let d = ap length (entries-kept m p) in
    let e = ap length (entries-kept m (λ q. not (p q))) in
    let f = parts-of (λ x. p x.0) (fin.entries m) in
    omega (arith, a, b, c, d, e, f)

-- as many cells are filled after a paste as are beside the block there, and as many as the copied ones come to
pub pasted-count : (area : Block) (items : List (Place × CopyItem)) (at : Place) (b : Workbook) → IsBlockInside area
    → fin.len (with_copy area (contents_copied items) at b).cells ≡ count_apart (filter_map (place_pasted area at) items) + (fin.len b.cells - fin.len (fin.retain_keys b.cells (covers (destination area at))))
pasted-count area items at b inside =
    let kept : Contents = fin.retain_keys b.cells (λ p. not (covers (destination area at) p)) in
    let es = filter_map (item_pasted b.sheets area at) items in
    let same = pasted-places b.sheets area at items in
    let rest = len-parts b.cells (covers (destination area at)) in
    let beside : fin.len kept ≡ fin.len b.cells - fin.len (fin.retain_keys b.cells (covers (destination area at))) = omega (arith, rest) in
    ap (λ x. fin.len x.cells) (sym (pasted_whole area items at b inside))
    ∙ count-given es kept (λ q h. ap is_some (get-kept b.cells (λ p. not (covers (destination area at) p)) q ∙ ap (λ c. cond (not c) (fin.get b.cells q) None) (pasted-there area at items q (ap (λ ps. is_among ps q) (sym same) ∙ h))))
    ∙ ap (λ ps. count_apart ps + fin.len kept) same
    ∙ ap (λ n. count_apart (filter_map (place_pasted area at) items) + n) beside

mapped-kept : (f : Cell → Content) (b : Bool) (r : Option Cell) → option_map f (cond b r None) ≡ cond b (option_map f r) None
mapped-kept f true r = refl
mapped-kept f false r = refl

-- as many contents as cells pass a test of their places
pub len-kept : (stands : Numbered) (cells : PlaceMap Cell) (p : Place → Bool) → fin.len (fin.retain_keys (contents_of stands cells) p) ≡ fin.len (fin.retain_keys cells p)
len-kept stands cells p = ap fin.len (sym same) ∙ len-contents stands (fin.retain_keys cells p)
  where
    same : contents_of stands (fin.retain_keys cells p) ≡ fin.retain_keys (contents_of stands cells) p
    same = same_map place_cmp-IsTotalOrder place_cmp-IsAntisymmetric _ _ (λ q.
        get-contents stands (fin.retain_keys cells p) q ∙ ap (option_map (content_of stands)) (get-kept cells p q) ∙ mapped-kept (content_of stands) (p q) (fin.get cells q)
        ∙ sym (get-kept (contents_of stands cells) p q ∙ ap (λ r. cond (p q) r None) (get-contents stands cells q)))

-- a block has no more cells than there are
pub listed-few : (cells : PlaceMap Cell) (p : Place → Bool) → length (fin.entries (fin.retain_keys cells p)) ≤ fin.len cells
listed-few cells p =
    let rest = len-parts cells p in
    let listed = len-entries (fin.retain_keys cells p) in
    omega (arith, rest, listed)
