-- What listed cells hold and show. Serves the values of blocks.
use Rattle.std.proofs.Common.{◌≡◌, ◌∙◌, sym, ap, subst, refl, ℤ, ℕ, Bool, true, false, cond, ◌+◌, ◌<◌, ◌++◌, get_or, length, take, List, [], ◌∷◌, map, Option, Some, None, option_map, is_some, Bor, Result, Vec, Global}
use Rattle.std.proofs.lemmas.List.{map_more}
use Rattle.std.proofs.lemmas.List.Elements.{All-from_recursion}
use Rattle.std.proofs.lemmas.Option.{none-some, same_Some}
use Rattle.std.specs.FinMap as fin
use Rattle.std.specs.List.{AllByRecursion}
use Rattle.cell_addr.specs.Place.{covers}
use Rattle.cell_addr.specs.declared.place.Block.{Block}
use Rattle.cell_addr.specs.declared.place.Place.{Place}
use Rattle.cell_addr.proofs.Places.{place_cmp-IsTotalOrder}
use Rattle.cell_value.specs.declared.scalar.Scalar.{Scalar}
use Rattle.custom_fn.specs.declared.rule.Rule.{Rule}
use Rattle.grid_store.specs.Grid.{seen_items, within}
use Rattle.grid_store.specs.declared.cell.Cell.{Cell}
use Rattle.grid_store.proofs.PlaceMaps.{get-kept}
use Rattle.shift_core.specs.Maps.{PlaceMap}
use Rattle.book_values.specs.Book.{Content}
use Rattle.calc_terms.specs.World.{World}
use Rattle.book_values.specs.Values.{content_value, value_of}
use Rattle.book_values.specs.Workbook.{Workbook, content_tree, home_of, place}
use Rattle.recalc_core.specs.Given.{HasGiven}
use Rattle.recalc_core.specs.declared.trees.NodeContent.TheVariants as given
use Rattle.recalc_core.proofs.Worked.{expected_some, value_expected}
use Rattle.kept_book.specs.Numbered.{Numbered}
use Rattle.kept_book.specs.Stored.{content_of, contents_of}
use Rattle.kept_book.proofs.Contents.{get-contents}
use Rattle.kept_steps.proofs.Entries.{each_entry}
use Rattle.book_model.specs.Workbook.{State}
use Rattle.session_questions.specs.Areas.{values_cause, values_in_block}
use Rattle.session_operations.specs.Turns.{Answered}
use Rattle.session_operations.specs.Seen.{with_rules}
use Rattle.session_operations.specs.declared.stop.Stop.{Stop}
use Rattle.session_questions.specs.internal.ShownCells.{AreHeld, Holds, shown_at, shown_each}

-- a cell whose content has no tree shows what its content alone gives
pub plain_shown : (b : Workbook) (customs : List (List ℕ × Rule)) (today : ℤ) (p : Place) (c : Content) (s : Scalar) → fin.get b.cells p ≡ Some c → content_tree (Some c) ≡ None
    → ((w : World) (rules : List (List ℕ × Rule)) → content_value w rules (home_of (place p)) (Some c) ≡ s) → s ≡ value_of b customs today (place p)
plain_shown b customs today p c s there none shows =
    let has : HasGiven b (place p) (given.Value s) = (ap is_some there, ap content_tree there ∙ none, λ w rules. ap (content_value w rules (home_of (place p))) there ∙ shows w rules) in
    same_Some s (value_of b customs today (place p)) (sym (value_expected b customs today (place p) s has) ∙ expected_some b customs today (place p) (ap is_some there))

kept_there : {X : Type 0} (b : Bool) (o : Option X) (x : X) → cond b o None ≡ Some x → o ≡ Some x
kept_there true o x e = e
kept_there false o x e = absurd (none-some x e)

each_lent : (P : Place → Cell → Type 0) (items : List (Place × Bor Cell)) → AllByRecursion (λ e. P e.0 e.1) (seen_items items) → AllByRecursion (λ e. P e.0 e.1.now) items
each_lent P [] h = tt
each_lent P (e ∷ es) h = (h.0, each_lent P es h.1)

-- the listed cells of a block are those of the workbook
pub listed_held : (area : Block) (stands : Numbered) (cells : PlaceMap Cell) (b : Workbook) (items : List (Place × Bor Cell)) → b.cells ≡ contents_of stands cells → seen_items items ≡ fin.entries (within area cells) → AreHeld stands b items
listed_held area stands cells b items is listed =
    let held : (p : Place) (c : Cell) → fin.get (within area cells) p ≡ Some c → Holds stands b p c = λ p c there.
    ap (λ m. fin.get m p) is ∙ get-contents stands cells p ∙ ap (option_map (content_of stands)) (kept_there (covers area p) (fin.get cells p) c (sym (get-kept cells (covers area) p) ∙ there)) in
    All-from_recursion (λ e. Holds stands b e.0 e.1.now) items (each_lent (Holds stands b) items (subst (AllByRecursion (λ e. Holds stands b e.0 e.1)) (sym listed) (each_entry place_cmp-IsTotalOrder (λ e. Holds stands b e.0 e.1) (within area cells) held)))

-- what listed cells show is what their places show
pub shown_places : (b : Workbook) (customs : List (List ℕ × Rule)) (today : ℤ) (items : List (Place × Bor Cell)) → shown_each b customs today items ≡ map (λ p. (p, value_of b customs today (place p))) (map (λ e. e.0) items)
shown_places b customs today [] = refl
shown_places b customs today (e ∷ es) = ap (λ l. shown_at b customs today e ∷ l) (shown_places b customs today es)

-- one more listed cell
pub one_more : (b : Workbook) (customs : List (List ℕ × Rule)) (today : ℤ) (items : List (Place × Bor Cell)) (i : ℕ) (e : Place × Bor Cell) (list new : List (Place × Scalar)) (s : Scalar) → i < length items → e ≡ get_or items i e → list ≡ shown_each b customs today (take i items)
    → s ≡ value_of b customs today (place e.0) → new ≡ list ++ (e.0, s) ∷ [] → new ≡ shown_each b customs today (take (i + 1) items)
one_more b customs today items i e list new s below here before is more =
    more ∙ (λ j. before j ++ (e.0, is j) ∷ []) ∙ ap (λ x. shown_each b customs today (take i items) ++ shown_at b customs today x ∷ []) here ∙ sym (map_more (shown_at b customs today) items i e below)

-- what is answered of a session is answered of one that is the same
pub answered_as : (area : Block) (d e : State) → d ≡ e → (r : Result (Vec (Place × Scalar) Global) Stop) → Answered (values_cause area d) (λ list. list.items ≡ values_in_block area d) r → Answered (values_cause area e) (λ list. list.items ≡ values_in_block area e) r
answered_as area d e same r told = subst (λ s. Answered (values_cause area s) (λ list. list.items ≡ values_in_block area s) r) same told

-- and on one day is on another that is the same
pub answered_on : (area : Block) (customs : List (List ℕ × Rule)) (d : State) (m n : ℤ) → m ≡ n → (r : Result (Vec (Place × Scalar) Global) Stop) → Answered (values_cause area d) (λ list. list.items ≡ values_in_block area (with_rules customs m d)) r
    → Answered (values_cause area d) (λ list. list.items ≡ values_in_block area (with_rules customs n d)) r
answered_on area customs d m n same r told = subst (λ (k : ℤ). Answered (values_cause area d) (λ list. list.items ≡ values_in_block area (with_rules customs k d)) r) same told
