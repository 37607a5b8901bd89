-- Nodes before an operation and where they are after it: their trees, their words and what they need. Serves the laws on operations.
use Rattle.std.proofs.Common.{◌≡◌, ◌∙◌, sym, ap, refl, ℕ, true, false, cond, ◌==◌, eqb-true, List, Option, Some, None, is_some, option_map, ◌⊎◌, inl, inr}
use Rattle.std.specs.Prelude.{⊤}
use Rattle.std.specs.FinMap as map
use Rattle.std.specs.List.{list_any}
use Rattle.std.proofs.lemmas.Bool.{false_from_ne_true, false≢true, or_parts}
use Rattle.cell_addr.specs.Place.{IsInside, covers}
use Rattle.cell_addr.specs.declared.place.Place.{Place}
use Rattle.formula_tree.specs.Links.{names_in}
use Rattle.formula_tree.specs.Reference.{sheet_of}
use Rattle.formula_tree.specs.Term.{Term}
use Rattle.formula_tree.specs.declared.reference.Corner.{Corner}
use Rattle.shift_core.specs.Carried.{carried_place, destination}
use Rattle.shift_core.specs.Form.{form_of}
use Rattle.shift_core.specs.Sound.{IsSound}
use Rattle.shift_core.specs.Tables.{place_after, place_moved}
use Rattle.shift_core.specs.declared.form.Form.{Form}
use Rattle.shift_core.specs.declared.form.Form.TheVariants.{Cells, Lines, Sheet}
use Rattle.shift_core.specs.declared.shift.Shift.{Shift}
use Rattle.shift_core.proofs.CellMoves.{Covers-from_covers, carried_covered, cases_chosen, covers-from_Covers}
use Rattle.shift_core.proofs.PlaceLaws.{place_moved_returns}
use Rattle.tree_rewrite.specs.References.{FitsSheets}
use Rattle.tree_rewrite.specs.Rewritten.{area_after, rewritten}
use Rattle.tree_rewrite.proofs.OnSheets.{place-leads}
use Rattle.calc_terms.specs.Needs.{mentions}
use Rattle.book_values.specs.Names.{Key, found, is_found, key_of, tree_in}
use Rattle.book_values.specs.Workbook as book
use Rattle.book_values.specs.Workbook.{Workbook, content_tree, home_of, mentions_node, needs, scope_sheet, tree_at, tree_needs}
use Rattle.carried_books.specs.Moved.{content_after, node_before}
use Rattle.carried_books.proofs.Moved.{tree_after}
use Rattle.carried_terms.proofs.Needs.{names_stay}
use Rattle.recalc_core.specs.Kept.{stands}
use Rattle.recalc_core.specs.Shifted.{drops_scope}
use Rattle.recalc_core.proofs.Bridge.{mentioned_stands}
use Rattle.marked_values.specs.Shifts.{IsBookAfter, is_moved_cell, is_moved_in}
use Rattle.marked_values.proofs.StillTrees.{IsUnbent, mention_came, mention_goes, mentioned_inside}

pub some_mapped : {X Y : Type 0} (f : X → Y) (o : Option X) → is_some (option_map f o) ≡ is_some o
some_mapped f None = refl
some_mapped f (Some x) = refl

-- a cell that isn't of a moved block stays on its sheet, which isn't dropped
pub sheet_stays : (f : Form) (p q : Place) → is_moved_in f q ≡ false → place_moved f p ≡ Some q → (q.sheet ≡ p.sheet) × (drops_scope f q.sheet ≡ false)
sheet_stays (Lines sheet axis edit) p q still goes = (place-leads (Lines sheet axis edit) p q goes, refl)
sheet_stays (Sheet sheet) p q still goes =
    let (same, other) = place-leads (Sheet sheet) p q goes in
    (same, false_from_ne_true (q.sheet == sheet) (λ is. other (sym same ∙ eqb-true q.sheet sheet is)))
sheet_stays (Cells source to) p q still goes = by (cases_chosen (covers source p) (covers (destination source to) p) (carried_place source to p) p q goes)
  where
    by : ((covers source p ≡ true) × (q ≡ carried_place source to p)) ⊎ ((covers source p ≡ false) × (covers (destination source to) p ≡ false) × (q ≡ p)) → (q.sheet ≡ p.sheet) × (false ≡ false)
    by (inl (away, is)) =
        let onto = covers-from_Covers (destination source to) (carried_place source to p) (carried_covered source to p (Covers-from_covers source p away)) in
        absurd (false≢true (sym (or_parts (covers source q) (covers (destination source to) q) still).1 ∙ ap (covers (destination source to)) is ∙ onto))
    by (inr (out, apart, is)) = (ap (λ (r : Place). r.sheet) is, refl)

module _ (s : Shift) where
  -- the operation takes the first node, a place of a sheet or a name that stays, to the second
  abbrev pub Pair : book.Node → book.Node → Type 0
  Pair (book.place p) (book.place q) = IsInside p × (place_after s p ≡ Some q)
  Pair (book.name key) (book.name other) = (drops_scope (form_of s) (scope_sheet key.scope) ≡ false) × (other ≡ key)
  Pair (book.place p) (book.name other) = ⊥
  Pair (book.name key) (book.place q) = ⊥

  -- the second node is no cell of a moved block
  abbrev pub IsSettled : book.Node → Type 0
  IsSettled (book.place q) = is_moved_cell s q ≡ false
  IsSettled (book.name key) = ⊤

  -- it was the first one
  pub pair_back : IsSound s → (x z : book.Node) → Pair x z → node_before s z ≡ Some x
  pair_back sound (book.place p) (book.place q) (inside, goes) = ap (option_map book.place) (place_moved_returns (form_of s) p q sound inside goes)
  pair_back sound (book.name key) (book.name other) (stays, same) = ap (λ k. Some (book.name k)) same
  pair_back sound (book.place p) (book.name other) pair = absurd pair
  pair_back sound (book.name key) (book.place q) pair = absurd pair

  module _ (b c : Workbook) (over : IsBookAfter s b c) where
    pub pair_tree : (x z : book.Node) → Pair x z → tree_at c z ≡ option_map (rewritten s) (tree_at b x)
    pair_tree (book.place p) (book.place q) (inside, goes) = ap content_tree (over.cells p q inside goes) ∙ tree_after s (map.get b.cells p)
    pair_tree (book.name key) (book.name other) (stays, same) = ap (tree_in c.names) same ∙ over.names key stays
    pair_tree (book.place p) (book.name other) pair = absurd pair
    pair_tree (book.name key) (book.place q) pair = absurd pair

    pub pair_stands : (x z : book.Node) → Pair x z → stands c z ≡ stands b x
    pair_stands (book.place p) (book.place q) (inside, goes) = ap is_some (over.cells p q inside goes) ∙ some_mapped (content_after s) (map.get b.cells p)
    pair_stands (book.name key) (book.name other) (stays, same) = ap (λ k. is_some (tree_in c.names k)) same ∙ ap is_some (over.names key stays) ∙ some_mapped (rewritten s) (tree_in b.names key)
    pair_stands (book.place p) (book.name other) pair = absurd pair
    pair_stands (book.name key) (book.place q) pair = absurd pair

    -- words find what they found on a sheet that isn't dropped
    pub found_same : (sheet : ℕ) (word : List ℕ) → drops_scope (form_of s) sheet ≡ false → found c.names word sheet ≡ found b.names word sheet
    found_same sheet word stays = λ i. cond (known (key_of (Some sheet) word) stays i) (Some (key_of (Some sheet) word)) (cond (known (key_of None word) over.global i) (Some (key_of None word)) None)
      where
        known : (key : Key) → drops_scope (form_of s) (scope_sheet key.scope) ≡ false → is_some (tree_in c.names key) ≡ is_some (tree_in b.names key)
        known key here = ap is_some (over.names key here) ∙ some_mapped (rewritten s) (tree_in b.names key)

    abbrev pub FindsSame : book.Node → book.Node → Type 0
    FindsSame x z = (word : List ℕ) → found c.names word (sheet_of (home_of z)) ≡ found b.names word (sheet_of (home_of x))

    pub pair_finds : (x z : book.Node) → Pair x z → IsSettled z → FindsSame x z
    pair_finds (book.place p) (book.place q) (inside, goes) settled word =
        let (same, stays) = sheet_stays (form_of s) p q settled goes in
        found_same q.sheet word stays ∙ ap (found b.names word) same
    pair_finds (book.name key) (book.name other) (stays, same) settled word =
        ap (λ (k : Key). found c.names word (scope_sheet k.scope)) same ∙ found_same (scope_sheet key.scope) word stays
    pair_finds (book.place p) (book.name other) pair settled word = absurd pair
    pair_finds (book.name key) (book.place q) pair settled word = absurd pair

    -- a name that a formula finds afterwards isn't dropped
    pub known_stays : (key : Key) → is_some (tree_in c.names key) ≡ true → drops_scope (form_of s) (scope_sheet key.scope) ≡ false
    known_stays key there = false_from_ne_true (drops_scope (form_of s) (scope_sheet key.scope)) (λ drops. false≢true (sym (ap is_some (over.dropped key drops)) ∙ there))

    -- the formula uses the same names
    pub same_names : (x z : book.Node) (t : Term Corner) → FindsSame x z → (key : Key)
        → mentions_node c.names (sheet_of (home_of z)) (rewritten s t) (book.name key) ≡ mentions_node b.names (sheet_of (home_of x)) t (book.name key)
    same_names x z t finds key =
        ap (list_any (λ w. is_found (found c.names w (sheet_of (home_of z))) key)) (names_stay (place_after s) (area_after s) (λ p. false) t)
        ∙ (λ i. list_any (λ w. is_found (finds w i) key) (names_in t))

    module _ (x z : book.Node) (t : Term Corner) (sound : IsSound s) (pair : Pair x z) (is : tree_at b x ≡ Some t) (fits : FitsSheets t) (unbent : IsUnbent s t) (finds : FindsSame x z) where
      is_after : tree_at c z ≡ Some (rewritten s t)
      is_after = pair_tree x z pair ∙ ap (option_map (rewritten s)) is

      needs_of : (y : book.Node) → needs b x y ≡ mentions_node b.names (sheet_of (home_of x)) t y
      needs_of y = ap (λ o. tree_needs b.names (sheet_of (home_of x)) o y) is

      needs_after : (w : book.Node) → needs c z w ≡ mentions_node c.names (sheet_of (home_of z)) (rewritten s t) w
      needs_after w = ap (λ o. tree_needs c.names (sheet_of (home_of z)) o w) is_after

      -- what the first node needs the second one does, where it is then, or as a place that its cell left
      abbrev pub Forth : book.Node → Type 0
      Forth y = ((w : book.Node) × Pair y w × (needs c z w ≡ true)) ⊎ ((p : Place) × (y ≡ book.place p) × (is_moved_cell s p ≡ true) × (needs c z (book.place p) ≡ true))

      pub need_forth : (y : book.Node) → needs b x y ≡ true → Forth y
      need_forth (book.place p) need = by (mention_goes s sound t fits unbent p here)
        where
          here : mentions t p ≡ true
          here = sym (needs_of (book.place p)) ∙ need

          by : ((q : Place) × (place_after s p ≡ Some q) × (mentions (rewritten s t) q ≡ true)) ⊎ ((is_moved_cell s p ≡ true) × (mentions (rewritten s t) p ≡ true)) → Forth (book.place p)
          by (inl (q, goes, there)) = inl (book.place q, (mentioned_inside t p fits here, goes), needs_after (book.place q) ∙ there)
          by (inr (gone, there)) = inr (p, refl, gone, needs_after (book.place p) ∙ there)
      need_forth (book.name key) need =
          let there : mentions_node c.names (sheet_of (home_of z)) (rewritten s t) (book.name key) ≡ true = same_names x z t finds key ∙ sym (needs_of (book.name key)) ∙ need in
          inl (book.name key, (known_stays key (mentioned_stands c.names (sheet_of (home_of z)) (rewritten s t) key there), refl), needs_after (book.name key) ∙ there)

      -- and what the second one needs the first one did
      abbrev pub Back : book.Node → Type 0
      Back w = ((y : book.Node) × Pair y w × (needs b x y ≡ true)) ⊎ ((p : Place) × (w ≡ book.place p) × (is_moved_cell s p ≡ true) × (needs b x (book.place p) ≡ true))

      pub need_back : (w : book.Node) → needs c z w ≡ true → Back w
      need_back (book.place q) need = by (mention_came s sound t fits unbent q (sym (needs_after (book.place q)) ∙ need))
        where
          by : ((p : Place) × (place_after s p ≡ Some q) × (mentions t p ≡ true)) ⊎ ((is_moved_cell s q ≡ true) × (mentions t q ≡ true)) → Back (book.place q)
          by (inl (p, goes, here)) = inl (book.place p, (mentioned_inside t p fits here, goes), needs_of (book.place p) ∙ here)
          by (inr (gone, here)) = inr (q, refl, gone, needs_of (book.place q) ∙ here)
      need_back (book.name key) need =
          let there : mentions_node c.names (sheet_of (home_of z)) (rewritten s t) (book.name key) ≡ true = sym (needs_after (book.name key)) ∙ need in
          inl (
            book.name key,
            (known_stays key (mentioned_stands c.names (sheet_of (home_of z)) (rewritten s t) key there), refl),
            needs_of (book.name key) ∙ sym (same_names x z t finds key) ∙ there,
          )
