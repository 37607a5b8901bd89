-- The nodes of all places of a block that is moved and of where it goes. Serves the list of them.
use Rattle.std.proofs.Common.{◌≡◌, ◌≤◌, ◌<◌, ◌+◌, ◌∙◌, sym, ap, refl, subst, arith, ℕ, Bool, true, false, ◌||◌, List, [], ◌∷◌, ◌++◌, Some}
use Rattle.std.proofs.lemmas.Bool.{false≢true}
use Rattle.std.proofs.lemmas.Bool.Decides.{nat_tests}
use Rattle.cell_addr.specs.Place.{IsBlockInside, covers}
use Rattle.cell_addr.specs.declared.place.Block.{Block}
use Rattle.cell_addr.specs.declared.place.Place.{Place}
use Rattle.shift_core.specs.Carried.{destination, first_place}
use Rattle.shift_core.specs.Form.{form_of}
use Rattle.shift_core.specs.Opposite.{opposite_of}
use Rattle.shift_core.specs.declared.form.Form.TheVariants.{Cells}
use Rattle.shift_core.specs.declared.shift.Shift.{Shift}
use Rattle.shift_core.specs.declared.shift.Shift.TheVariants.{MoveBlock}
use Rattle.shift_core.proofs.Opposites.{comes_home}
use Rattle.book_values.specs.Workbook as book
use Rattle.book_values.specs.Workbook.{scope_sheet}
use Rattle.dep_graph.specs.Nodes.{has, same_node}
use Rattle.dep_graph.specs.declared.node.Node.{Node}
use Rattle.dep_graph.specs.declared.node.Node.TheVariants as node
use Rattle.recalc_core.specs.Laws.{AreKnown}
use Rattle.recalc_core.specs.Shifted.{drops_scope}
use Rattle.marked_values.specs.Shifts.{is_moved_in}
use Rattle.kept_values.specs.Shifted.{HasTouched, may_touch}
use Rattle.kept_values.proofs.Following.{same_tests}
use Rattle.session_values.specs.Parts.{AllPass}
use Rattle.session_values.specs.internal.Listed.{AreAdded, is_moved_node, is_node_above, is_node_before, is_node_in, is_node_in_row}
use Rattle.session_values.proofs.Listed.{has_last}

-- ---- one place, and one row, after the other

or_nothing : (m : Bool) → (m || false) ≡ m
or_nothing true = refl
or_nothing false = refl

or_grouped : (l m n : Bool) → ((l || m) || n) ≡ (l || (m || n))
or_grouped true m n = refl
or_grouped false m n = refl

none_added : (test : Node → Bool) (nodes : List Node) → ((a : Node) → test a ≡ false) → AreAdded test nodes nodes
none_added test nodes none a = sym (ap (λ t. has a nodes || t) (none a) ∙ or_nothing (has a nodes))

more_added : (test more all : Node → Bool) (old now new : List Node) → AreAdded test old now → AreAdded more now new → ((a : Node) → (test a || more a) ≡ all a) → AreAdded all old new
more_added test more all old now new before after join a = after a ∙ ap (λ t. t || more a) (before a) ∙ or_grouped (has a old) (test a) (more a) ∙ ap (λ t. has a old || t) (join a)

same_added : (test other : Node → Bool) (old new : List Node) → AreAdded test old new → ((a : Node) → test a ≡ other a) → AreAdded other old new
same_added test other old new are same a = are a ∙ ap (λ t. has a old || t) (same a)

module _ (b : Block) (row : ℕ) where
  before_first : (a : Node) → is_node_before b row b.left a ≡ false
  before_first (node.Cell p) = same_tests (is_node_before b row b.left (node.Cell p)) false (λ h. grind (arith, nat_tests)) (λ h. absurd (false≢true h))
  before_first (node.Name scope word) = refl
  before_first (node.Range c) = refl
  before_first (node.Whole w) = refl

  pub no_place : (nodes : List Node) → AreAdded (is_node_before b row b.left) nodes nodes
  no_place nodes = none_added (is_node_before b row b.left) nodes before_first

  place_joins : (q : Place) → b.sheet ≡ q.sheet → q.row ≡ row → b.top ≤ row → row ≤ b.bottom → b.left ≤ q.col → q.col ≤ b.right → (a : Node) → (is_node_before b row q.col a || same_node a (node.Cell q)) ≡ is_node_before b row (q.col + 1) a
  place_joins q sheet is top bottom left right (node.Cell p) = same_tests (is_node_before b row q.col (node.Cell p) || same_node (node.Cell p) (node.Cell q)) (is_node_before b row (q.col + 1) (node.Cell p)) (λ h. grind (arith, nat_tests)) (λ h. grind (arith, nat_tests))
  place_joins q sheet is top bottom left right (node.Name scope word) = refl
  place_joins q sheet is top bottom left right (node.Range c) = refl
  place_joins q sheet is top bottom left right (node.Whole w) = refl

  pub place_added : (q : Place) (old now new : List Node) → b.sheet ≡ q.sheet → q.row ≡ row → b.top ≤ row → row ≤ b.bottom → b.left ≤ q.col → q.col ≤ b.right → AreAdded (is_node_before b row q.col) old now → new ≡ now ++ node.Cell q ∷ []
      → AreAdded (is_node_before b row (q.col + 1)) old new
  place_added q old now new sheet is top bottom left right before listed =
      more_added (is_node_before b row q.col) (λ a. same_node a (node.Cell q)) (is_node_before b row (q.col + 1)) old now new before (λ a. ap (has a) listed ∙ has_last a (node.Cell q) now) (place_joins q sheet is top bottom left right)

  row_done : (col : ℕ) → b.right < col → (a : Node) → is_node_before b row col a ≡ is_node_in_row b row a
  row_done col past (node.Cell p) = same_tests (is_node_before b row col (node.Cell p)) (is_node_in_row b row (node.Cell p)) (λ h. grind (arith, nat_tests)) (λ h. grind (arith, nat_tests))
  row_done col past (node.Name scope word) = refl
  row_done col past (node.Range c) = refl
  row_done col past (node.Whole w) = refl

  pub row_added : (col : ℕ) (old new : List Node) → b.right < col → AreAdded (is_node_before b row col) old new → AreAdded (is_node_in_row b row) old new
  row_added col old new past are = same_added (is_node_before b row col) (is_node_in_row b row) old new are (row_done col past)

module _ (b : Block) where
  above_first : (a : Node) → is_node_above b b.top a ≡ false
  above_first (node.Cell p) = same_tests (is_node_above b b.top (node.Cell p)) false (λ h. grind (arith, nat_tests)) (λ h. absurd (false≢true h))
  above_first (node.Name scope word) = refl
  above_first (node.Range c) = refl
  above_first (node.Whole w) = refl

  pub no_row : (nodes : List Node) → AreAdded (is_node_above b b.top) nodes nodes
  no_row nodes = none_added (is_node_above b b.top) nodes above_first

  row_joins : (row : ℕ) (a : Node) → (is_node_above b row a || is_node_in_row b row a) ≡ is_node_above b (row + 1) a
  row_joins row (node.Cell p) = same_tests (is_node_above b row (node.Cell p) || is_node_in_row b row (node.Cell p)) (is_node_above b (row + 1) (node.Cell p)) (λ h. grind (arith, nat_tests)) (λ h. grind (arith, nat_tests))
  row_joins row (node.Name scope word) = refl
  row_joins row (node.Range c) = refl
  row_joins row (node.Whole w) = refl

  pub next_row : (row : ℕ) (old now new : List Node) → AreAdded (is_node_above b row) old now → AreAdded (is_node_in_row b row) now new → AreAdded (is_node_above b (row + 1)) old new
  next_row row old now new before after = more_added (is_node_above b row) (is_node_in_row b row) (is_node_above b (row + 1)) old now new before after (row_joins row)

  block_done : (row : ℕ) → b.bottom < row → (a : Node) → is_node_above b row a ≡ is_node_in b a
  block_done row past (node.Cell p) = same_tests (is_node_above b row (node.Cell p)) (is_node_in b (node.Cell p)) (λ h. grind (arith, nat_tests)) (λ h. grind (arith, nat_tests))
  block_done row past (node.Name scope word) = refl
  block_done row past (node.Range c) = refl
  block_done row past (node.Whole w) = refl

  pub block_added : (row : ℕ) (old new : List Node) → b.bottom < row → AreAdded (is_node_above b row) old new → AreAdded (is_node_in b) old new
  block_added row old new past are = same_added (is_node_above b row) (is_node_in b) old new are (block_done row past)

pub both_added : (source : Block) (to : Place) (first now new : List Node) → first ≡ [] → AreAdded (is_node_in source) first now → AreAdded (is_node_in (destination source to)) now new → AreAdded (is_moved_node source to) [] new
both_added source to first now new empty before after =
    subst (λ l. AreAdded (is_moved_node source to) l new) empty (more_added (is_node_in source) (is_node_in (destination source to)) (is_moved_node source to) first now new before after (λ a. refl))

-- ---- what an operation touches

module _ (source : Block) (to : Place) (nodes : List Node) (are : AreAdded (is_moved_node source to) [] nodes) where
  -- they are cells of both blocks
  moved_known : (words : List (List ℕ)) → AreKnown words nodes
  moved_known words (node.Cell p) h = (book.place p, refl)
  moved_known words (node.Name scope word) h = absurd (false≢true (sym (are (node.Name scope word)) ∙ h))
  moved_known words (node.Range c) h = absurd (false≢true (sym (are (node.Range c)) ∙ h))
  moved_known words (node.Whole w) h = absurd (false≢true (sym (are (node.Whole w)) ∙ h))

  pub known : (words : List (List ℕ)) → AreKnown words nodes
  known words = moved_known words

  module _ (x : Shift) (one : Block) (at : Place) (form : form_of x ≡ Cells one at) (same : (p : Place) → is_moved_in (Cells one at) p ≡ is_moved_node source to (node.Cell p)) where
    touched_by : (b : book.Workbook) (words : List (List ℕ)) → HasTouched x b words nodes
    touched_by b words = record {
      filled = λ p moved there. are (node.Cell p) ∙ sym (same p) ∙ ap (λ f. is_moved_in f p) (sym form) ∙ moved;
      names = λ a key at drops there. absurd (false≢true (ap (λ f. drops_scope f (scope_sheet key.scope)) (sym form) ∙ drops));
    }

    passes : AllPass (may_touch x) nodes
    passes (node.Cell p) h = ap (λ f. is_moved_in f p) form ∙ same p ∙ sym (are (node.Cell p)) ∙ h
    passes (node.Name scope word) h = absurd (false≢true (sym (are (node.Name scope word)) ∙ h))
    passes (node.Range c) h = absurd (false≢true (sym (are (node.Range c)) ∙ h))
    passes (node.Whole w) h = absurd (false≢true (sym (are (node.Whole w)) ∙ h))

  -- so the operation that moves the block touches no others
  pub touched : (x : Shift) → form_of x ≡ Cells source to → (b : book.Workbook) (words : List (List ℕ)) → HasTouched x b words nodes
  touched x form = touched_by x source to form (λ p. refl)

  pub all_pass : (x : Shift) → form_of x ≡ Cells source to → AllPass (may_touch x) nodes
  all_pass x form = passes x source to form (λ p. refl)

  -- nor does the one that takes it back
  module _ (x back : Shift) (form : form_of x ≡ Cells source to) (opposite : opposite_of x ≡ Some back) (inside : IsBlockInside source) where
    goes_back : back ≡ MoveBlock (destination source to) (first_place source)
    goes_back = cc

    form_back : form_of back ≡ Cells (destination source to) (first_place source)
    form_back = ap form_of goes_back

    or_turned : (l m : Bool) → (l || m) ≡ (m || l)
    or_turned true true = refl
    or_turned true false = refl
    or_turned false true = refl
    or_turned false false = refl

    same_back : (p : Place) → is_moved_in (Cells (destination source to) (first_place source)) p ≡ is_moved_node source to (node.Cell p)
    same_back p = ap (λ (c : Block). covers (destination source to) p || covers c p) (comes_home source to inside) ∙ or_turned (covers (destination source to) p) (covers source p)

    pub touched_back : (b : book.Workbook) (words : List (List ℕ)) → HasTouched back b words nodes
    touched_back = touched_by back (destination source to) (first_place source) form_back same_back

    pub all_pass_back : AllPass (may_touch back) nodes
    all_pass_back = passes back (destination source to) (first_place source) form_back same_back
