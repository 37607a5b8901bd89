-- Cells and names of a workbook over a structural operation. Source: this project's own.
use Rattle.std.specs.Prelude.{◌≡◌, ◌&&◌, Bool, true, ℕ, List, Option, Some, None, is_none, option_map}
use Rattle.std.specs.FinMap as map
use Rattle.cell_addr.specs.Place.{IsInside}
use Rattle.cell_addr.specs.declared.place.Place.{Place}
use Rattle.formula_tree.specs.Reference.{sheet_of}
use Rattle.formula_tree.specs.Term.{Term}
use Rattle.formula_tree.specs.declared.reference.Corner.{Corner}
use Rattle.shift_core.specs.Tables.{place_after, place_before}
use Rattle.shift_core.specs.declared.shift.Shift.{Shift}
use Rattle.tree_rewrite.specs.Rewritten.{rewritten}
use Rattle.book_values.specs.Book as contents
use Rattle.calc_terms.specs.Needs.{mentions_name}
use Rattle.book_values.specs.Names.{Key, found, tree_in}
use Rattle.book_values.specs.Workbook.{Node, Workbook, home_of, name, needs, place, tree_at}
use Rattle.carried_terms.specs.Still.{IsStill}

-- what a cell holds after the operation
abbrev pub content_after : Shift → contents.Content → contents.Content
content_after s (contents.formula t) = contents.formula (rewritten s t)
content_after s content = content

-- the cell or the name that a node was before the operation; none where the operation put the cell in
abbrev pub node_before : Shift → Node → Option Node
node_before s (place q) = option_map place (place_before s q)
node_before s (name key) = Some (name key)

-- the cell is empty before and after
abbrev pub is_bare : Workbook → Workbook → Place → Bool
is_bare before after p = is_none (map.get before.cells p) && is_none (map.get after.cells p)

-- these nodes of the workbook after the operation, with all that they need, are nodes of the one before it whose
-- formulas it carries along as they are, or empty cells that it puts in
pub record AreCarried (s : Shift) (before after : Workbook) (Inside : Node → Type 0) : Type 0 where
  pub closed : (a c : Node) → Inside a → needs after a c ≡ true → Inside c
  pub within : (q : Place) → Inside (place q) → IsInside q
  pub cells : (p q : Place) → IsInside p → place_after s p ≡ Some q → map.get after.cells q ≡ option_map (content_after s) (map.get before.cells p)
  pub fresh : (q : Place) → Inside (place q) → place_before s q ≡ None → map.get after.cells q ≡ None
  pub names : (key : Key) → Inside (name key) → tree_in after.names key ≡ option_map (rewritten s) (tree_in before.names key)
  pub still : (a x : Node) (t : Term Corner) → Inside a → node_before s a ≡ Some x → tree_at before x ≡ Some t → IsStill s (is_bare before after) t
  -- their words find the names that they found
  pub finds : (a x : Node) (t : Term Corner) (word : List ℕ) → Inside a → node_before s a ≡ Some x → tree_at before x ≡ Some t → mentions_name t word ≡ true
      → found after.names word (sheet_of (home_of a)) ≡ found before.names word (sheet_of (home_of x))
