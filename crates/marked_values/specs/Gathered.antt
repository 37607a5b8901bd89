-- Which nodes to gather before an operation, or before it is taken back, so that they are marked after it. Source: this project's own.
use Rattle.std.specs.Prelude.{◌≡◌, ◌++◌, ℕ, ℤ, true, List, Some, None, is_some, IsTrue}
use Rattle.std.specs.FinMap as map
use Rattle.cell_addr.specs.declared.place.Place.{Place}
use Rattle.custom_fn.specs.declared.rule.Rule.{Rule}
use Rattle.formula_tree.specs.Term.{Term}
use Rattle.formula_tree.specs.declared.reference.Corner.{Corner}
use Rattle.shift_core.specs.Form.{form_of}
use Rattle.shift_core.specs.Opposite.{opposite_of}
use Rattle.shift_core.specs.Sound.{IsSound}
use Rattle.shift_core.specs.Tables.{place_after}
use Rattle.shift_core.specs.declared.shift.Shift.{Shift}
use Rattle.book_values.specs.Names.{Key, tree_in}
use Rattle.book_values.specs.Workbook as book
use Rattle.book_values.specs.Workbook.{Workbook, scope_sheet, tree_at}
use Rattle.dep_graph.specs.Bent.{AreBent, Bends, IsBentBy}
use Rattle.dep_graph.specs.Needs.{Links}
use Rattle.dep_graph.specs.Nodes.{has}
use Rattle.dep_graph.specs.Shifted.{node_after}
use Rattle.dep_graph.specs.declared.node.Node.{Node}
use Rattle.dep_graph.specs.declared.node.Node.TheVariants.{Cell}
use Rattle.recalc_core.specs.Kept.{Kept}
use Rattle.recalc_core.specs.Links.{IsLinkAt}
use Rattle.recalc_core.specs.Nodes.{node_at}
use Rattle.recalc_core.specs.Shifted.{drops_scope}
use Rattle.marked_values.specs.Marks.{Follow, IsBookInside}
use Rattle.marked_values.specs.Shifts.{AreMarksAfter, AreMarksBack, IsBookAfter, asks_place, is_moved_cell}

-- the list has each node whose formula asks where a reference is, and each filled cell of a block that an operation moves and of where
-- that goes
pub record AreUnsettled (s : Shift) (b : Workbook) (words : List (List ℕ)) (touched : List Node) : Type 0 where
  pub asking : (a : Node) (x : book.Node) (t : Term Corner) → node_at words a ≡ Some x → tree_at b x ≡ Some t → asks_place t ≡ true → IsTrue (has a touched)
  pub filled : (p : Place) → is_moved_cell s p ≡ true → is_some (map.get b.cells p) ≡ true → IsTrue (has (Cell p) touched)

-- the list has each node that an operation touches in the workbook before it: besides these each that is linked to what it bends, and
-- each name of a dropped sheet
pub record AreTouched (s : Shift) (b : Workbook) (words : List (List ℕ)) (links : Links) (touched : List Node) : Type 0 where
  pub unsettled : AreUnsettled s b words touched
  pub bent : (a : Node) → IsBentBy s links a → IsTrue (has a touched)
  pub names : (a : Node) (key : Key) → node_at words a ≡ Some (book.name key) → drops_scope (form_of s) (scope_sheet key.scope) ≡ true → is_some (tree_in b.names key) ≡ true → IsTrue (has a touched)

-- the second list has each node of the first one where the operation takes it; and a cell of a moved block where it was too
pub record AreTakenAlong (s : Shift) (nodes more : List Node) : Type 0 where
  pub along : (a after : Node) → IsTrue (has a nodes) → node_after s a ≡ Some after → IsTrue (has after more)
  pub stay : (p : Place) → is_moved_cell s p ≡ true → IsTrue (has (Cell p) nodes) → IsTrue (has (Cell p) more)

-- the marks and what an operation touches, taken along, are the marks after it
abbrev pub TouchedAreMarked : Type 0
TouchedAreMarked =
    (s : Shift) (b c : Workbook) (words : List (List ℕ)) (customs : List (List ℕ × Rule)) (today : ℤ) (links : Links) (marks touched more : List Node) (kept : Kept) →
    IsSound s → IsBookAfter s b c → Follow b words customs today links marks kept → AreTouched s b words links touched → AreTakenAlong s (marks ++ touched) more →
    AreMarksAfter s b c words links marks more

-- the list has what comes back where an operation is taken back: each cell that it had removed, and each node whose formula is linked to
-- what it had bent
pub record AreRestored (s : Shift) (b : Workbook) (words : List (List ℕ)) (restored : List Node) : Type 0 where
  pub removed : (p : Place) → place_after s p ≡ None → is_some (map.get b.cells p) ≡ true → IsTrue (has (Cell p) restored)
  pub bent : (a d : Node) → IsLinkAt b words a d → Bends s d → IsTrue (has a restored)

-- what an operation bends is known from the graph and the marks before it, where these are noted for when it is taken back
abbrev pub BentAreNoted : Type 0
BentAreNoted =
    (s : Shift) (b : Workbook) (words : List (List ℕ)) (customs : List (List ℕ × Rule)) (today : ℤ) (links : Links) (marks noted : List Node) (kept : Kept) →
    Follow b words customs today links marks kept → AreBent s links noted → (a d : Node) → IsLinkAt b words a d → Bends s d → IsTrue (has a (marks ++ noted))

-- the marks and what is unsettled, taken along by the second operation, which takes the first one back, and what comes back are the
-- marks after that
abbrev pub RestoredAreMarked : Type 0
RestoredAreMarked =
    (s back : Shift) (b c : Workbook) (words : List (List ℕ)) (marks touched restored more : List Node) →
    IsSound s → opposite_of s ≡ Some back → IsBookInside b → IsBookAfter s b c → AreUnsettled back c words touched → AreTakenAlong back (marks ++ touched) more →
    AreRestored s b words restored → ((a : Node) → IsTrue (has a restored) → IsTrue (has a more)) → AreMarksBack s back b c words marks more
