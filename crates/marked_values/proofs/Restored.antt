-- What was marked and unsettled before an operation is taken back, and what comes back, are the marks after that. Serves the law.
use Rattle.std.proofs.Common.{◌≡◌, ◌∙◌, sym, ap, ap₂, refl, subst, ℕ, Bool, true, false, ◌||◌, List, ◌++◌, Option, Some, None, is_some, option_map, ◌⊎◌, inl, inr, arith}
use Rattle.std.specs.Prelude.{IsTrue}
use Rattle.std.specs.FinMap as map
use Rattle.std.proofs.lemmas.Bool.{and_from, false≢true, or_right}
use Rattle.std.proofs.lemmas.Option.{none-some, same_Some}
use Rattle.cell_addr.specs.Place.{IsBlockInside, IsInside, covers}
use Rattle.cell_addr.specs.declared.axis.Axis.{Axis}
use Rattle.cell_addr.specs.declared.place.Block.{Block}
use Rattle.cell_addr.specs.declared.place.Place.{Place}
use Rattle.formula_tree.specs.Links.{is_place_word}
use Rattle.formula_tree.specs.Reference.{block_of}
use Rattle.formula_tree.specs.Term.{Term, Terms, number, text, truth, fault, cell, area, whole, prefix, percent, binary, call, paren, no_terms, term, mapped_all}
use Rattle.formula_tree.specs.Term as terms
use Rattle.formula_tree.specs.declared.reference.Corner.{Corner}
use Rattle.shift_core.specs.Carried.{carried_place, contains, destination, first_place, last_place}
use Rattle.shift_core.specs.Form.{form_of}
use Rattle.shift_core.specs.Opposite.{form_back, opposite_of}
use Rattle.shift_core.specs.Sound.{IsSound, IsSoundForm}
use Rattle.shift_core.specs.Tables.{block_after, place_after, place_moved}
use Rattle.shift_core.specs.declared.form.Form.{Form}
use Rattle.shift_core.specs.declared.form.Form.TheVariants.{Cells, Lines, Sheet}
use Rattle.shift_core.specs.declared.shift.Shift.{Shift}
use Rattle.shift_core.proofs.CellMoves.{Covers-from_covers, carried_covered, cases_chosen, covers-from_Covers}
use Rattle.shift_core.proofs.Opposites.{form_of_opposite}
use Rattle.shift_core.proofs.UnbentBlocks.{carried_back}
use Rattle.tree_rewrite.specs.Rewritten.{area_after, area_at, cell_at, rewritten}
use Rattle.book_values.specs.Book.{Content}
use Rattle.book_values.specs.Workbook as book
use Rattle.book_values.specs.Workbook.{Workbook, content_tree, scope_sheet, tree_at}
use Rattle.carried_books.specs.Moved.{content_after, is_bare}
use Rattle.carried_books.proofs.Moved.{tree_after}
use Rattle.dep_graph.specs.Nodes.{has}
use Rattle.dep_graph.specs.declared.node.Node.{Node}
use Rattle.dep_graph.specs.declared.node.Node.TheVariants.{Cell, Name, Range, Whole}
use Rattle.dep_graph.proofs.Places.{has-append_left, has-append_right}
use Rattle.recalc_core.specs.Nodes.{node_at}
use Rattle.recalc_core.proofs.Bridge.{none_some}
use Rattle.marked_values.specs.Gathered.{AreRestored, AreTakenAlong, AreUnsettled, RestoredAreMarked}
use Rattle.marked_values.specs.Marks.{IsBookInside}
use Rattle.marked_values.specs.Shifts.{AreMarksBack, IsBookAfter, any_asks_place, asks_place, is_moved_cell, is_moved_in}
use Rattle.marked_values.proofs.Alone.{place_node}
use Rattle.marked_values.proofs.GoingBack.{back_is_sound, keeps, turned}
use Rattle.marked_values.proofs.Origins.{was_at}
use Rattle.marked_values.proofs.Pairs.{some_mapped}
use Rattle.marked_values.proofs.Touched.{filled_somewhere}

-- ---- a formula asks for a place after an operation where it did before

cell_asks : (c : Corner) (o : Option Place) → asks_place (cell_at c o) ≡ false
cell_asks c None = refl
cell_asks c (Some p) = refl

area_asks : (lines : Option Axis) (c d : Corner) (o : Option Block) → asks_place (area_at lines c d o) ≡ false
area_asks lines c d None = refl
area_asks None c d (Some b) = refl
area_asks (Some axis) c d (Some b) = refl

module _ (s : Shift) where
  mutual
    pub asks_still : (t : Term Corner) → asks_place (rewritten s t) ≡ asks_place t
    asks_still (cell c) = cell_asks c (place_after s c.at)
    asks_still (area c d) = area_asks None c d (block_after s (block_of c d))
    asks_still (whole axis c d) = area_asks (Some axis) c d (area_after s (Some axis) (block_of c d))
    asks_still (prefix sign t) = asks_still t
    asks_still (percent t) = asks_still t
    asks_still (binary o l r) = ap₂ (λ m n. m || n) (asks_still l) (asks_still r)
    asks_still (call w ts) = ap (λ m. is_place_word w || m) (any_asks_still ts)
    asks_still (paren t) = asks_still t
    asks_still (number m) = refl
    asks_still (text w) = refl
    asks_still (truth b) = refl
    asks_still (fault k) = refl
    asks_still (terms.name w) = refl

    any_asks_still : (ts : Terms Corner) → any_asks_place (mapped_all (λ c. cell_at c (place_after s c.at)) (λ lines c d. area_at lines c d (area_after s lines (block_of c d))) ts) ≡ any_asks_place ts
    any_asks_still no_terms = refl
    any_asks_still (term t ts) = ap₂ (λ m n. m || n) (asks_still t) (any_asks_still ts)

-- ---- an operation and its opposite move cells of the same blocks

or_turned : (m n : Bool) → (m || n) ≡ (n || m)
or_turned true true = refl
or_turned true false = refl
or_turned false true = refl
or_turned false false = refl

own_part : (source : Block) → IsBlockInside source → contains source source ≡ true
own_part source inside = and_from (covers source (first_place source)) (covers source (last_place source))
    (covers-from_Covers source (first_place source) (refl, omega arith, omega arith, omega arith, omega arith))
    (covers-from_Covers source (last_place source) (refl, omega arith, omega arith, omega arith, omega arith))

moved_same : (f g : Form) (p : Place) → IsSoundForm f → form_back f ≡ Some g → is_moved_in g p ≡ is_moved_in f p
moved_same (Lines sheet axis edit) g p sound e = ap (λ h. is_moved_in h p) (sym (same_Some _ g e))
moved_same (Cells source to) g p sound e =
    ap (λ h. is_moved_in h p) (sym (same_Some _ g e))
    ∙ ap (λ block. covers (destination source to) p || covers block p) (carried_back source to source (own_part source sound.0))
    ∙ or_turned (covers (destination source to) p) (covers source p)
moved_same (Sheet sheet) g p sound e = absurd (none-some g e)

-- a moved cell goes to a moved one
moved_on : (f : Form) (p q : Place) → is_moved_in f p ≡ true → place_moved f p ≡ Some q → is_moved_in f q ≡ true
moved_on (Lines sheet axis edit) p q moved goes = moved
moved_on (Sheet sheet) p q moved goes = moved
moved_on (Cells source to) p q moved goes = by (cases_chosen (covers source p) (covers (destination source to) p) (carried_place source to p) p q goes)
  where
    by : ((covers source p ≡ true) × (q ≡ carried_place source to p)) ⊎ ((covers source p ≡ false) × (covers (destination source to) p ≡ false) × (q ≡ p)) → is_moved_in (Cells source to) q ≡ true
    by (inl (away, is)) =
        or_right (covers source q) (covers (destination source to) q)
        (ap (covers (destination source to)) is
        ∙ covers-from_Covers (destination source to) (carried_place source to p) (carried_covered source to p (Covers-from_covers source p away)))
    by (inr (out, apart, is)) = ap (is_moved_in (Cells source to)) is ∙ moved

-- ---- the marks

module _ (s back : Shift) (b c : Workbook) (words : List (List ℕ)) (marks touched restored more : List Node) (sound : IsSound s) (opposite : opposite_of s ≡ Some back)
    (inside : IsBookInside b) (over : IsBookAfter s b c) (unsettled : AreUnsettled back c words touched) (taken : AreTakenAlong back (marks ++ touched) more)
    (comes : AreRestored s b words restored) (come : (a : Node) → IsTrue (has a restored) → IsTrue (has a more)) where
  moved_back : (p : Place) → is_moved_cell s p ≡ true → is_moved_cell back p ≡ true
  moved_back p moved = moved_same (form_of s) (form_of back) p sound (form_of_opposite s back opposite) ∙ moved

  -- a cell goes back where it came from
  cell_back : (p q : Place) → IsInside p → place_after s p ≡ Some q → IsTrue (has (Cell q) touched) → IsTrue (has (Cell p) more)
  cell_back p q in_limits goes is =
      let (there, returns) = turned s back sound opposite (book.place p) (book.place q) (in_limits, goes) in
      taken.along (Cell q) (Cell p) (has-append_right (Cell q) marks touched is) (ap (option_map Cell) returns)

  filled_back : (p : Place) → is_moved_cell s p ≡ true → (o : Option Content) → map.get b.cells p ≡ o → is_some (map.get b.cells p) ≡ true → (r : Option Place) → place_after s p ≡ r → IsTrue (has (Cell p) more)
  filled_back p moved None e there r goes = absurd (false≢true (sym (ap is_some e) ∙ there))
  filled_back p moved (Some content) e there None lost = come (Cell p) (comes.removed p lost there)
  filled_back p moved (Some content) e there (Some q) goes =
      let in_limits = inside.cells p content e in
      cell_back p q in_limits goes
      (unsettled.filled q (moved_back q (moved_on (form_of s) p q moved goes)) (ap is_some (over.cells p q in_limits goes) ∙ some_mapped (content_after s) (map.get b.cells p) ∙ there))

  moved : (p : Place) → is_moved_cell s p ≡ true → is_bare b c p ≡ false → IsTrue (has (Cell p) more)
  moved p is filled = by (filled_somewhere (map.get b.cells p) (map.get c.cells p) filled)
    where
      by : (is_some (map.get b.cells p) ≡ true) ⊎ (is_some (map.get c.cells p) ≡ true) → IsTrue (has (Cell p) more)
      by (inl here) = filled_back p is (map.get b.cells p) refl here (place_after s p) refl
      by (inr there) = taken.stay p (moved_back p is) (has-append_right (Cell p) marks touched (unsettled.filled p (moved_back p is) there))

  asking : (a : Node) (x : book.Node) (t : Term Corner) → node_at words a ≡ Some x → tree_at b x ≡ Some t → asks_place t ≡ true → IsTrue (has a more)
  asking a (book.place p) t at is asks = subst (λ n. IsTrue (has n more)) (sym (place_node words a p at)) (by (map.get b.cells p) refl (place_after s p) refl)
    where
      by : (o : Option Content) → map.get b.cells p ≡ o → (r : Option Place) → place_after s p ≡ r → IsTrue (has (Cell p) more)
      by None e r goes = absurd (none_some t (sym (ap content_tree e) ∙ is))
      by (Some content) e None lost = come (Cell p) (comes.removed p lost (ap is_some e))
      by (Some content) e (Some q) goes =
          let in_limits = inside.cells p content e in
          let tree : content_tree (map.get c.cells q) ≡ Some (rewritten s t) =
          ap content_tree (over.cells p q in_limits goes) ∙ tree_after s (map.get b.cells p) ∙ ap (option_map (rewritten s)) is in
          cell_back p q in_limits goes (unsettled.asking (Cell q) (book.place q) (rewritten s t) refl tree (asks_still s t ∙ asks))
  asking a (book.name key) t at is asks = by a at
    where
      known : (n : Node) → node_at words n ≡ Some (book.name key) → IsTrue (has n touched)
      known n to = unsettled.asking n (book.name key) (rewritten s t) to (over.names key (keeps s back sound opposite (scope_sheet key.scope)).0 ∙ ap (option_map (rewritten s)) is) (asks_still s t ∙ asks)

      by : (n : Node) → node_at words n ≡ Some (book.name key) → IsTrue (has n more)
      by (Cell p) to = absurd (cc)
      by (Name scope word) to = taken.along (Name scope word) (Name scope word) (has-append_right (Name scope word) marks touched (known (Name scope word) to)) refl
      by (Range block) to = absurd (none_some (book.name key) to)
      by (Whole w) to = absurd (none_some (book.name key) to)

  pub marks_back : AreMarksBack s back b c words marks more
  marks_back = record {
    follow = λ a was plain from mark. taken.along was a (has-append_left was marks touched mark) (was_at back (back_is_sound s back sound opposite) a was from).0;
    stay = λ p is mark. taken.stay p (moved_back p is) (has-append_left (Cell p) marks touched mark);
    moved = moved;
    removed = λ p lost there. come (Cell p) (comes.removed p lost there);
    bent = λ a d link bends. come a (comes.bent a d link bends);
    asking = asking;
  }

pub restored_are_marked : RestoredAreMarked
restored_are_marked s back b c words marks touched restored more sound opposite inside over unsettled taken comes come =
    marks_back s back b c words marks touched restored more sound opposite inside over unsettled taken comes come
