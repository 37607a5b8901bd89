-- The filled places of a workbook, and how far a sheet is used. Serves what is asked of areas.
use Rattle.std.proofs.Common.{◌≡◌, ◌∙◌, sym, ap, subst, refl, arith, ◌==◌, ◌&&◌, ℕ, Bool, true, false, cond, filter, List, [], ◌∷◌, map, Option, Some, None, is_some, Bor, eqb-true}
use Rattle.std.proofs.lemmas.Bool.{false≢true}
use Rattle.std.proofs.lemmas.Bool.Decides.{nat_tests}
use Rattle.std.proofs.lemmas.List.Elements.{All-from_recursion}
use Rattle.std.specs.FinMap as fin
use Rattle.std.specs.FinMap.{contains_key-keys, entries_sorted, get-entries, get-from_entries, same_map}
use Rattle.std.specs.FinMap.Entries.{below_all, is_sorted, same_entries}
use Rattle.std.specs.List.{All, AllByRecursion}
use Rattle.std.specs.Ordering.{is_lt}
use Rattle.std.specs.Prelude.{T}
use Rattle.cell_addr.specs.Order.{place_cmp}
use Rattle.cell_addr.specs.Place.{covers}
use Rattle.cell_addr.specs.declared.place.Block.{Block}
use Rattle.cell_addr.specs.declared.place.Place.{Place}
use Rattle.cell_addr.proofs.Places.{place_cmp-IsAntisymmetric, place_cmp-IsTotalOrder}
use Rattle.book_values.specs.Book.{Content}
use Rattle.grid_store.specs.Grid.{seen_items, within}
use Rattle.grid_store.specs.declared.cell.Cell.{Cell}
use Rattle.grid_store.proofs.PlaceMaps.{entries-kept, get-kept}
use Rattle.shift_core.specs.Maps.{PlaceMap}
use Rattle.book_model.specs.Sound.{IsSound}
use Rattle.book_model.specs.Workbook.{State, Workbook}
use Rattle.kept_book.specs.Numbered.{Numbered}
use Rattle.kept_book.specs.Stored.{content_of, contents_of}
use Rattle.session_questions.specs.Areas.{IsFilledOn, IsUsedArea, filled_on_sheet, filled_where}
use Rattle.session_operations.specs.Kept.{whole_sheet}
use Rattle.session_questions.specs.internal.Areas.{area_over, widened}
use Rattle.session_operations.specs.internal.Pasting.{is_among}
use Rattle.session_questions.proofs.LeastAreas.{among_first, among_later, every, grown, start_reaches}
use Rattle.session_operations.proofs.Turning.{covers_same}

module _ {X Y : Type 0} (h : X → Y) where
  abbrev mapped : List (Place × X) → List (Place × Y)
  mapped es = map (λ e. (e.0, h e.1)) es

  below_mapped : (p : Place) (es : List (Place × X)) → below_all place_cmp p (mapped es) ≡ below_all place_cmp p es
  below_mapped p [] = refl
  below_mapped p (e ∷ es) = ap (λ b. is_lt (place_cmp p e.0) && b) (below_mapped p es)

  sorted_mapped : (es : List (Place × X)) → is_sorted place_cmp (mapped es) ≡ is_sorted place_cmp es
  sorted_mapped [] = refl
  sorted_mapped (e ∷ es) = λ i. below_mapped e.0 es i && sorted_mapped es i

  -- the entries of a map that has something else at each place
  entries_mapped : (m : PlaceMap X) → fin.entries (fin.from_entries {R = place_cmp} (mapped (fin.entries m))) ≡ mapped (fin.entries m)
  entries_mapped m =
      same_entries place_cmp place_cmp-IsTotalOrder place_cmp-IsAntisymmetric (fin.entries (fin.from_entries {R = place_cmp} (mapped (fin.entries m)))) (mapped (fin.entries m))
      (entries_sorted (fin.from_entries {R = place_cmp} (mapped (fin.entries m)))) (subst T (sym (sorted_mapped (fin.entries m))) (entries_sorted m))
      (λ q. sym (get-entries (fin.from_entries {R = place_cmp} (mapped (fin.entries m))) q) ∙ get-from_entries place_cmp-IsTotalOrder (mapped (fin.entries m)) q)

  places_mapped : (p : Place → Bool) (es : List (Place × X)) → map (λ e. e.0) (filter (λ e. p e.0) (mapped es)) ≡ map (λ e. e.0) (filter (λ e. p e.0) es)
  places_mapped p [] = refl
  places_mapped p (e ∷ es) = go (p e.0) (places_mapped p es)
    where
      go : (b : Bool) → map (λ e. e.0) (filter (λ e. p e.0) (mapped es)) ≡ map (λ e. e.0) (filter (λ e. p e.0) es)
          → map (λ e. e.0) (cond b ((e.0, h e.1) ∷ filter (λ e. p e.0) (mapped es)) (filter (λ e. p e.0) (mapped es))) ≡ map (λ e. e.0) (cond b (e ∷ filter (λ e. p e.0) es) (filter (λ e. p e.0) es))
      go true r = ap (λ ps. e.0 ∷ ps) r
      go false r = r

  keys_mapped : (m : PlaceMap X) (p : Place → Bool) → fin.keys (fin.retain_keys (fin.from_entries {R = place_cmp} (mapped (fin.entries m))) p) ≡ fin.keys (fin.retain_keys m p)
  keys_mapped m p =
      ap (map (λ e. e.0)) (entries-kept (fin.from_entries {R = place_cmp} (mapped (fin.entries m))) p)
      ∙ ap (λ es. map (λ e. e.0) (filter (λ e. p e.0) es)) (entries_mapped m)
      ∙ places_mapped p (fin.entries m)
      ∙ ap (map (λ e. e.0)) (sym (entries-kept m p))

seen_places : (items : List (Place × Bor Cell)) → map (λ e. e.0) items ≡ map (λ e. e.0) (seen_items items)
seen_places [] = refl
seen_places (e ∷ es) = ap (λ ps. e.0 ∷ ps) (seen_places es)

-- the places of the listed cells of a block are its filled places
pub places_listed : (area : Block) (stands : Numbered) (cells : PlaceMap Cell) (items : List (Place × Bor Cell)) → seen_items items ≡ fin.entries (within area cells)
    → map (λ e. e.0) items ≡ fin.keys (fin.retain_keys (contents_of stands cells) (covers area))
places_listed area stands cells items listed =
    seen_places items ∙ ap (map (λ e. e.0)) listed ∙ sym (keys_mapped (content_of stands) cells (covers area))

no_either : (b c : Bool) → ◌≡◌ {A = Option Content} (cond b None None) (cond c None None)
no_either true true = refl
no_either true false = refl
no_either false true = refl
no_either false false = refl

-- all filled places of a sheet are within its limits
pub places_of_sheet : (d : State) (sheet : ℕ) → IsSound d → filled_where (covers (whole_sheet sheet)) d.book ≡ filled_on_sheet sheet d.book
places_of_sheet d sheet sound =
    ap fin.keys (same_map place_cmp-IsTotalOrder place_cmp-IsAntisymmetric (fin.retain_keys d.book.cells (covers (whole_sheet sheet))) (fin.retain_keys d.book.cells (λ p. p.sheet == sheet)) (λ q.
    get-kept d.book.cells (covers (whole_sheet sheet)) q ∙ at q (fin.get d.book.cells q) refl ∙ sym (get-kept d.book.cells (λ p. p.sheet == sheet) q)))
  where
    at : (q : Place) (r : Option Content) → fin.get d.book.cells q ≡ r → cond (covers (whole_sheet sheet) q) (fin.get d.book.cells q) None ≡ cond (q.sheet == sheet) (fin.get d.book.cells q) None
    at q None is = ap (λ r. cond (covers (whole_sheet sheet) q) r None) is ∙ no_either (covers (whole_sheet sheet) q) (q.sheet == sheet) ∙ ap (λ r. cond (q.sheet == sheet) r None) (sym is)
    at q (Some x) is = ap (λ b. cond b (fin.get d.book.cells q) None) (covers_same sheet q (sound.book.cells q x is).0)

module _ (sheet : ℕ) (b : Workbook) where
  among_filled : (q : Place) → is_among (filled_on_sheet sheet b) q ≡ is_some (cond (q.sheet == sheet) (fin.get b.cells q) None)
  among_filled q = sym (contains_key-keys (fin.retain_keys b.cells (λ p. p.sheet == sheet)) q) ∙ ap is_some (get-kept b.cells (λ p. p.sheet == sheet) q)

  pub among_is : (q : Place) → is_among (filled_on_sheet sheet b) q ≡ true → IsFilledOn sheet b q
  among_is q h = go (q.sheet == sheet) refl (sym (among_filled q) ∙ h)
    where
      go : (t : Bool) → (q.sheet == sheet) ≡ t → is_some (cond t (fin.get b.cells q) None) ≡ true → IsFilledOn sheet b q
      go true same some = (eqb-true q.sheet sheet same, some)
      go false apart some = absurd (false≢true some)

  pub is_listed : (q : Place) → IsFilledOn sheet b q → is_among (filled_on_sheet sheet b) q ≡ true
  is_listed q (same, some) = among_filled q ∙ ap (λ t. is_some (cond t (fin.get b.cells q) None)) (itself q.sheet sheet same) ∙ some
    where
      itself : (m n : ℕ) → m ≡ n → (m == n) ≡ true
      itself m n e = grind (arith, nat_tests)

  -- the least block over the filled places is how far the sheet is used
  pub used_area_is : IsUsedArea sheet b (area_over None (filled_on_sheet sheet b))
  used_area_is = go (filled_on_sheet sheet b) refl
    where
      go : (ps : List Place) → filled_on_sheet sheet b ≡ ps → IsUsedArea sheet b (area_over None ps)
      go [] none = none
      go (p ∷ ps) some =
          let here : (q : Place) → is_among (p ∷ ps) q ≡ true → IsFilledOn sheet b q = λ q h. among_is q (ap (λ l. is_among l q) some ∙ h) in
          let first : IsFilledOn sheet b p = here p (among_first p ps) in
          let all = grown (IsFilledOn sheet b) (widened None p) ps (start_reaches (IsFilledOn sheet b) p first) (λ q h.
          let one = here q (among_later p q ps h) in (one, first.0 ∙ sym one.0)) in
          subst (IsUsedArea sheet b) (sym all.is) (record {
            all = λ q h. every (IsFilledOn sheet b) p ps all q (ap (λ l. is_among l q) (sym some) ∙ is_listed q h);
            top = all.reaches.0;
            left = all.reaches.1;
            bottom = all.reaches.2;
            right = all.reaches.3;
          })

passing : {X : Type 0} (p : Place → Bool) (es : List (Place × X)) → AllByRecursion (λ q. p q ≡ true) (map (λ e. e.0) (filter (λ e. p e.0) es))
passing p [] = tt
passing p (e ∷ es) = go (p e.0) refl (passing p es)
  where
    go : (b : Bool) → p e.0 ≡ b → AllByRecursion (λ q. p q ≡ true) (map (λ e. e.0) (filter (λ e. p e.0) es)) → AllByRecursion (λ q. p q ≡ true) (map (λ e. e.0) (cond b (e ∷ filter (λ e. p e.0) es) (filter (λ e. p e.0) es)))
    go true is rest = (is, rest)
    go false is rest = rest

-- filled places that pass a test pass it
pub each_passes : (test : Place → Bool) (b : Workbook) → All (λ p. test p ≡ true) (filled_where test b)
each_passes test b =
    All-from_recursion (λ p. test p ≡ true) (filled_where test b)
    (subst (λ es. AllByRecursion (λ p. test p ≡ true) (map (λ e. e.0) es)) (sym (entries-kept b.cells test)) (passing test (fin.entries b.cells)))
