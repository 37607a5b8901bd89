-- What structural operations leave of links and kept values that follow a workbook. Source: this project's own.
use Rattle.std.specs.Prelude.{◌≡◌, ◌||◌, Bool, true, false, ℕ, ℤ, List, Some, None, is_some, IsTrue}
use Rattle.std.specs.FinMap as map
use Rattle.std.specs.Option.{option_map}
use Rattle.cell_addr.specs.declared.place.Place.{Place}
use Rattle.cell_addr.specs.declared.place.TheConstants.{NO_SHEET}
use Rattle.cell_addr.specs.Place.{IsInside, covers}
use Rattle.custom_fn.specs.declared.rule.Rule.{Rule}
use Rattle.book_values.specs.Book as contents
use Rattle.formula_tree.specs.Links.{is_place_word}
use Rattle.formula_tree.specs.Reference.{sheet_of}
use Rattle.formula_tree.specs.Term.{Term, prefix, percent, binary, call, paren, Terms, no_terms, term}
use Rattle.formula_tree.specs.declared.reference.Corner.{Corner}
use Rattle.shift_core.specs.Carried.{destination}
use Rattle.shift_core.specs.Opposite.{opposite_of}
use Rattle.shift_core.specs.Form.{form_of}
use Rattle.shift_core.specs.Sound.{IsSound}
use Rattle.shift_core.specs.Tables.{place_after, place_before}
use Rattle.shift_core.specs.declared.form.Form.{Form}
use Rattle.shift_core.specs.declared.form.Form.TheVariants.{Cells}
use Rattle.shift_core.specs.declared.shift.Shift.{Shift}
use Rattle.shift_core.specs.declared.shift.Shift.TheVariants.{DropSheet}
use Rattle.tree_rewrite.specs.Rewritten.{rewritten}
use Rattle.book_values.specs.Names.{Key, tree_in}
use Rattle.book_values.specs.Workbook as book
use Rattle.book_values.specs.Workbook.{Workbook, home_of, scope_sheet, tree_at}
use Rattle.dep_graph.specs.Bent.{Bends, IsBentBy}
use Rattle.dep_graph.specs.Needs.{Links}
use Rattle.dep_graph.specs.Nodes.{has}
use Rattle.dep_graph.specs.Shifted.{AreShifted}
use Rattle.dep_graph.specs.declared.node.Node.{Node}
use Rattle.dep_graph.specs.declared.node.Node.TheVariants.{Cell, Name}
use Rattle.recalc_core.specs.Kept.{Kept, stands}
use Rattle.recalc_core.specs.Laws.{AreKnown}
use Rattle.recalc_core.specs.Links.{IsLinkAt}
use Rattle.recalc_core.specs.Moves.{MarksFollow, carried_kept}
use Rattle.recalc_core.specs.Nodes.{AreNumbered, node_at}
use Rattle.recalc_core.specs.Shifted.{drops_scope, from_over}
use Rattle.carried_books.specs.Moved.{content_after, is_bare}
use Rattle.marked_values.specs.Marks.{Follow, IsBookInside}

-- the workbook after an operation: each cell where it was moved, each formula rewritten, and the names of a dropped sheet gone,
-- which isn't the scope of the whole workbook
pub record IsBookAfter (s : Shift) (b c : Workbook) : Type 0 where
  pub cells : (p q : Place) → IsInside p → place_after s p ≡ Some q → map.get c.cells q ≡ option_map (content_after s) (map.get b.cells p)
  pub fresh : (q : Place) → IsInside q → place_before s q ≡ None → map.get c.cells q ≡ None
  pub names : (key : Key) → drops_scope (form_of s) (scope_sheet key.scope) ≡ false → tree_in c.names key ≡ option_map (rewritten s) (tree_in b.names key)
  pub dropped : (key : Key) → drops_scope (form_of s) (scope_sheet key.scope) ≡ true → tree_in c.names key ≡ None
  pub global : drops_scope (form_of s) NO_SHEET ≡ false
  pub inside : (q : Place) (x : contents.Content) → map.get c.cells q ≡ Some x → IsInside q

-- a workbook stays within the limits of its sheets
abbrev pub BooksStayInside : Type 0
BooksStayInside = (s : Shift) (b c : Workbook) → IsSound s → IsBookInside b → IsBookAfter s b c → IsBookInside c

abbrev mutual
  -- a formula has a call of a function that asks where a reference is: ROW, COLUMN, ROWS or COLUMNS
  pub asks_place : Term Corner → Bool
  asks_place (prefix s t) = asks_place t
  asks_place (percent t) = asks_place t
  asks_place (binary o l r) = asks_place l || asks_place r
  asks_place (call word ts) = is_place_word word || any_asks_place ts
  asks_place (paren t) = asks_place t
  asks_place t = false

  pub any_asks_place : Terms Corner → Bool
  any_asks_place no_terms = false
  any_asks_place (term t ts) = asks_place t || any_asks_place ts

-- the place is one from which an operation moves a block of cells, or one to which it does
abbrev pub is_moved_in : Form → Place → Bool
is_moved_in (Cells source to) p = covers source p || covers (destination source to) p
is_moved_in form p = false

abbrev pub is_moved_cell : Shift → Place → Bool
is_moved_cell s p = is_moved_in (form_of s) p

-- the marks after an operation: those from before where they are then; in a moved block those that were there too, and each cell that
-- is filled or was; each node whose formula the operation bends, or that asks where a reference is; and each name of a dropped sheet
-- that is linked to something
pub record AreMarksAfter (s : Shift) (b c : Workbook) (words : List (List ℕ)) (links : Links) (marks more : List Node) : Type 0 where
  pub follow : MarksFollow (from_over s) marks more
  pub stay : (p : Place) → is_moved_cell s p ≡ true → IsTrue (has (Cell p) marks) → IsTrue (has (Cell p) more)
  pub moved : (p : Place) → is_moved_cell s p ≡ true → is_bare b c p ≡ false → IsTrue (has (Cell p) more)
  pub bent : (a z : Node) → IsBentBy s links a → from_over s z ≡ Some a → IsTrue (has z more)
  pub asking : (a z : Node) (x : book.Node) (t : Term Corner) → node_at words a ≡ Some x → tree_at b x ≡ Some t → asks_place t ≡ true → from_over s z ≡ Some a → IsTrue (has z more)
  pub gone : (scope word : ℕ) (d : Node) → drops_scope (form_of s) scope ≡ true → IsTrue (has d (links (Name scope word))) → IsTrue (has (Name scope word) more)

-- after an operation, links and kept values that went along with their nodes follow
abbrev pub ShiftsFollow : Type 0
ShiftsFollow =
    (s : Shift) (b c : Workbook) (words : List (List ℕ)) (customs : List (List ℕ × Rule)) (today : ℤ) (old new : Links) (marks more : List Node) (kept : Kept) →
    IsSound s → IsBookInside b → IsBookAfter s b c → AreNumbered words c.names → AreShifted s old new → AreMarksAfter s b c words old marks more → AreKnown words more →
    Follow b words customs today old marks kept → Follow c words customs today new more (carried_kept (from_over s) kept)

-- the marks after the second operation took the first one back: those from before where they are then; in a moved block those that were
-- there too, and each cell that is filled or was; each cell that the first operation had removed; and each node whose formula it had bent,
-- or that asks where a reference is
pub record AreMarksBack (s back : Shift) (b c : Workbook) (words : List (List ℕ)) (marks more : List Node) : Type 0 where
  pub follow : MarksFollow (from_over back) marks more
  pub stay : (p : Place) → is_moved_cell s p ≡ true → IsTrue (has (Cell p) marks) → IsTrue (has (Cell p) more)
  pub moved : (p : Place) → is_moved_cell s p ≡ true → is_bare b c p ≡ false → IsTrue (has (Cell p) more)
  pub removed : (p : Place) → place_after s p ≡ None → is_some (map.get b.cells p) ≡ true → IsTrue (has (Cell p) more)
  pub bent : (a d : Node) → IsLinkAt b words a d → Bends s d → IsTrue (has a more)
  pub asking : (a : Node) (x : book.Node) (t : Term Corner) → node_at words a ≡ Some x → tree_at b x ≡ Some t → asks_place t ≡ true → IsTrue (has a more)

-- after an operation that led from a workbook to another one was taken back, links and kept values that went back with their nodes
-- follow the first one again
abbrev pub ShiftsGoBackFollow : Type 0
ShiftsGoBackFollow =
    (s back : Shift) (b c : Workbook) (words : List (List ℕ)) (customs : List (List ℕ × Rule)) (today : ℤ) (old new : Links) (marks more : List Node) (kept : Kept) →
    IsSound s → opposite_of s ≡ Some back → IsBookInside b → IsBookAfter s b c → AreShifted back old new → AreMarksBack s back b c words marks more → AreKnown words more →
    Follow c words customs today old marks kept → Follow b words customs today new more (carried_kept (from_over back) kept)

-- the marks after a dropped sheet came back: those from before; each node of the sheet, a cell or a name, that the workbook then has;
-- and each node whose formula had lost a reference, or that asks where a reference is
pub record AreMarksReturned (sheet : ℕ) (b : Workbook) (words : List (List ℕ)) (marks more : List Node) : Type 0 where
  pub stay : (a : Node) → IsTrue (has a marks) → IsTrue (has a more)
  pub returned : (a : Node) (x : book.Node) → node_at words a ≡ Some x → sheet_of (home_of x) ≡ sheet → stands b x ≡ true → IsTrue (has a more)
  pub bent : (a d : Node) → IsLinkAt b words a d → Bends (DropSheet sheet) d → IsTrue (has a more)
  pub asking : (a : Node) (x : book.Node) (t : Term Corner) → node_at words a ≡ Some x → tree_at b x ≡ Some t → asks_place t ≡ true → IsTrue (has a more)

-- after a dropped sheet came back, links and kept values that stayed as they were follow the workbook with the sheet
abbrev pub ReturnsFollow : Type 0
ReturnsFollow =
    (sheet : ℕ) (b c : Workbook) (words : List (List ℕ)) (customs : List (List ℕ × Rule)) (today : ℤ) (links : Links) (marks more : List Node) (kept : Kept) →
    IsBookInside b → IsBookAfter (DropSheet sheet) b c → AreNumbered words b.names → AreMarksReturned sheet b words marks more → AreKnown words more →
    Follow c words customs today links marks kept → Follow b words customs today links more kept
