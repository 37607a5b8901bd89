-- Cells of a block that are copied one after the other, and what is found of copied ones. Serves copies.
use Rattle.std.proofs.Common.{◌≡◌, ◌∙◌, sym, ap, subst, refl, ℕ, ◌+◌, ◌<◌, Bool, true, false, cond, List, [], ◌∷◌, ◌++◌, length, get_or, take, map, Option, Some, None, is_some, option_map}
use Rattle.std.specs.List.{All, cons_option, filter_map}
use Rattle.std.specs.FinMap as fin
use Rattle.std.specs.FinMap.{find, get-from_entries, get-retain_keys, same_map}
use Rattle.std.specs.Ordering.{eq_by_cmp}
use Rattle.std.proofs.lemmas.List.{take_more, map-append}
use Rattle.std.proofs.lemmas.List.Elements.{All-head, All-tail, filter_map-append}
use Rattle.cell_addr.proofs.Places.{place_cmp-IsTotalOrder, place_cmp-IsAntisymmetric}
use Rattle.cell_addr.specs.Order.{place_cmp}
use Rattle.cell_addr.specs.Place.{covers}
use Rattle.cell_addr.specs.declared.place.Block.{Block}
use Rattle.cell_addr.specs.declared.place.Place.{Place}
use Rattle.book_values.specs.Book.{Content}
use Rattle.clip_board.specs.declared.clip.CopyItem.{CopyItem}
use Rattle.clip_board.specs.declared.clip.CopyItem.TheVariants as item
use Rattle.grid_store.specs.Grid.{within}
use Rattle.grid_store.specs.declared.cell.Cell.{Cell}
use Rattle.grid_store.specs.declared.cell.Cell.TheVariants as cell
use Rattle.shift_core.specs.Maps.{PlaceMap}
use Rattle.book_model.proofs.Contents.{is_at}
use Rattle.book_model.specs.Sound.{IsProperContent}
use Rattle.kept_book.specs.Copied.{IsCopied, content_copied, contents_copied, entry_copied}
use Rattle.kept_book.specs.Numbered.{Numbered}
use Rattle.kept_book.specs.Stored.{content_of, contents_of}
use Rattle.kept_book.proofs.Contents.{get-contents}
use Rattle.kept_book.proofs.Emptying.{found_within}

-- what a listed cell holds, at its place
abbrev pub held_at : Numbered → PlaceMap Cell → Place × Cell → Option (Place × Content)
held_at stands cells e = option_map (λ c. (e.0, content_of stands c)) (fin.get cells e.0)

found-held : (stands : Numbered) (cells : PlaceMap Cell) (q : Place) (es : List (Place × Cell))
    → find place_cmp q (filter_map (held_at stands cells) es) ≡ cond (is_some (find place_cmp q es)) (option_map (content_of stands) (fin.get cells q)) None
found-held stands cells q [] = refl
found-held stands cells q (e ∷ es) = go (eq_by_cmp place_cmp q e.0) (fin.get cells e.0) refl refl (found-held stands cells q es)
  where
    both : (b : Bool) → cond {A = Option Content} b None None ≡ None
    both true = refl
    both false = refl

    go : (b : Bool) (r : Option Cell) → eq_by_cmp place_cmp q e.0 ≡ b → fin.get cells e.0 ≡ r
        → find place_cmp q (filter_map (held_at stands cells) es) ≡ cond (is_some (find place_cmp q es)) (option_map (content_of stands) (fin.get cells q)) None
        → find place_cmp q (cons_option (option_map (λ c. (e.0, content_of stands c)) r) (filter_map (held_at stands cells) es))
        ≡ cond (is_some (cond b (Some e.1) (find place_cmp q es))) (option_map (content_of stands) (fin.get cells q)) None
    go true None t g h =
        let same : fin.get cells q ≡ None = ap (fin.get cells) (sym (is_at e.0 q t)) ∙ g in
        h ∙ ap (λ r. cond (is_some (find place_cmp q es)) (option_map (content_of stands) r) None) same ∙ both (is_some (find place_cmp q es)) ∙ sym (ap (option_map (content_of stands)) same)
    go true (Some c) t g h =
        let same : fin.get cells q ≡ Some c = ap (fin.get cells) (sym (is_at e.0 q t)) ∙ g in
        ap (λ b. cond b (Some (content_of stands c)) (find place_cmp q (filter_map (held_at stands cells) es))) t ∙ sym (ap (option_map (content_of stands)) same)
    go false None t g h = h
    go false (Some c) t g h = ap (λ b. cond b (Some (content_of stands c)) (find place_cmp q (filter_map (held_at stands cells) es))) t ∙ h

-- what the listed cells of a block hold is what the block holds
pub copied-block : (stands : Numbered) (cells : PlaceMap Cell) (area : Block)
    → fin.from_entries (filter_map (held_at stands cells) (fin.entries (within area cells))) ≡ fin.retain_keys (contents_of stands cells) (covers area)
copied-block stands cells area = same_map place_cmp-IsTotalOrder place_cmp-IsAntisymmetric _ _ (λ q.
    get-from_entries place_cmp-IsTotalOrder (filter_map (held_at stands cells) (fin.entries (within area cells))) q
    ∙ found-held stands cells q (fin.entries (within area cells))
    ∙ ap (λ r. cond (is_some r) (option_map (content_of stands) (fin.get cells q)) None) (found_within area cells q)
    ∙ go q (covers area q) (fin.get cells q)
    ∙ ap (λ r. cond (covers area q) r None) (sym (get-contents stands cells q))
    ∙ sym (get-retain_keys (contents_of stands cells) (covers area) q (λ x t. ap (covers area) (sym (place_cmp-IsAntisymmetric q x t)))))
  where
    go : (q : Place) (b : Bool) (r : Option Cell) → cond (is_some (cond b r None)) (option_map (content_of stands) r) None ≡ cond b (option_map (content_of stands) r) None
    go q true None = refl
    go q true (Some c) = refl
    go q false r = refl

-- one listed cell more
more-held : (stands : Numbered) (cells : PlaceMap Cell) (es : List (Place × Cell)) (i : ℕ) (e : Place × Cell) → i < length es → e ≡ get_or es i e
    → filter_map (held_at stands cells) (take (i + 1) es) ≡ filter_map (held_at stands cells) (take i es) ++ cons_option (held_at stands cells e) []
more-held stands cells es i e h is =
    ap (filter_map (held_at stands cells)) (take_more es i e h ∙ ap (λ x. take i es ++ x ∷ []) (sym is)) ∙ filter_map-append (held_at stands cells) (take i es) (e ∷ [])

pub copied-more : (stands : Numbered) (cells : PlaceMap Cell) (es : List (Place × Cell)) (i : ℕ) (e : Place × Cell) (old new : List (Place × CopyItem)) (x : CopyItem) → i < length es → e ≡ get_or es i e
    → map entry_copied old ≡ filter_map (held_at stands cells) (take i es) → new ≡ old ++ (e.0, x) ∷ [] → option_map (content_copied e.0) (Some x) ≡ option_map (content_of stands) (fin.get cells e.0)
    → map entry_copied new ≡ filter_map (held_at stands cells) (take (i + 1) es)
copied-more stands cells es i e old new x h is so push holds =
    ap (map entry_copied) push ∙ map-append entry_copied old ((e.0, x) ∷ []) ∙ ap (λ l. l ++ (e.0, content_copied e.0 x) ∷ []) so
    ∙ ap (λ r. filter_map (held_at stands cells) (take i es) ++ cons_option r []) (one (fin.get cells e.0) holds) ∙ sym (more-held stands cells es i e h is)
  where
    placed : Content → Place × Content
    placed y = (e.0, y)

    one : (r : Option Cell) → Some (content_copied e.0 x) ≡ option_map (content_of stands) r → Some (placed (content_copied e.0 x)) ≡ option_map (λ c. placed (content_of stands c)) r
    one None g = cc
    one (Some c) g = ap (option_map placed) g

pub copied-none : (stands : Numbered) (cells : PlaceMap Cell) (es : List (Place × Cell)) (i : ℕ) (e : Place × Cell) (old : List (Place × CopyItem)) → i < length es → e ≡ get_or es i e
    → map entry_copied old ≡ filter_map (held_at stands cells) (take i es) → None ≡ option_map (content_of stands) (fin.get cells e.0)
    → map entry_copied old ≡ filter_map (held_at stands cells) (take (i + 1) es)
copied-none stands cells es i e old h is so holds = so ∙ none (fin.get cells e.0) holds ∙ sym (more-held stands cells es i e h is)
  where
    end : (l : List (Place × Content)) → l ≡ l ++ []
    end [] = refl
    end (x ∷ l) = ap (λ t. x ∷ t) (end l)

    none : (r : Option Cell) → None ≡ option_map (content_of stands) r
        → filter_map (held_at stands cells) (take i es) ≡ filter_map (held_at stands cells) (take i es) ++ cons_option (option_map (λ c. (e.0, content_of stands c)) r) []
    none None g = end (filter_map (held_at stands cells) (take i es))
    none (Some c) g = cc

copied-proper : (e : Place × CopyItem) → IsCopied e → IsProperContent (content_copied e.0 e.1)
copied-proper (at, item.Formula tree) h = h.1
copied-proper (at, item.Kept (cell.Number m)) h = tt
copied-proper (at, item.Kept (cell.Truth b)) h = tt
copied-proper (at, item.Kept (cell.Text w)) h = tt
copied-proper (at, item.Kept (cell.Formula n)) h = absurd (h.1 n refl)
copied-proper (at, item.Kept (cell.Broken w)) h = tt

first-or : (b : Bool) (x c : Content) (r : Option Content) → cond b (Some x) r ≡ Some c → IsProperContent x → (r ≡ Some c → IsProperContent c) → IsProperContent c
first-or true x c r h proper more = let same : x ≡ c = cc in subst IsProperContent same proper
first-or false x c r h proper more = more h

found-copied : (p : Place) (c : Content) (items : List (Place × CopyItem)) → All IsCopied items → find place_cmp p (map entry_copied items) ≡ Some c → IsProperContent c
found-copied p c [] all h = cc
found-copied p c (e ∷ items) all h =
    first-or (eq_by_cmp place_cmp p e.0) (content_copied e.0 e.1) c (find place_cmp p (map entry_copied items)) h (copied-proper e (All-head IsCopied e items all))
    (found-copied p c items (All-tail IsCopied e items all))

-- what copied cells held is proper
pub copied-sound : (items : List (Place × CopyItem)) → All IsCopied items → (p : Place) (c : Content) → fin.get (contents_copied items) p ≡ Some c → IsProperContent c
copied-sound items all p c h = found-copied p c items all (sym (get-from_entries place_cmp-IsTotalOrder (map entry_copied items) p) ∙ h)
