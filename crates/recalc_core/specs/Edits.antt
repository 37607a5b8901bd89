-- Which nodes do as before after one cell or one name was changed. Source: this project's own.
use Rattle.std.specs.Prelude.{◌≡◌, ◌∷◌, [], true, ℕ, List, Some, bytes_eq, IsTrue}
use Rattle.std.specs.FinMap as map
use Rattle.std.specs.List.{list_any}
use Rattle.cell_addr.specs.Text.{folded}
use Rattle.cell_addr.specs.declared.place.Place.{Place}
use Rattle.formula_tree.specs.Links.{names_in}
use Rattle.formula_tree.specs.Term.{Term}
use Rattle.formula_tree.specs.declared.reference.Corner.{Corner}
use Rattle.book_values.specs.Names.{Key, tree_in}
use Rattle.book_values.specs.Workbook as book
use Rattle.book_values.specs.Workbook.{Workbook, tree_at}
use Rattle.dep_graph.specs.Nodes.{has}
use Rattle.dep_graph.specs.declared.node.Node.{Node}
use Rattle.dep_graph.specs.declared.node.Node.TheVariants.{Cell}
use Rattle.recalc_core.specs.Laws.{DoAlike}
use Rattle.recalc_core.specs.Nodes.{node_at}

-- both have the same names, and the same in each cell but one
pub record DifferInCell (b c : Workbook) (p : Place) : Type 0 where
  pub names : b.names ≡ c.names
  pub cells : (q : Place) → ¬ (q ≡ p) → map.get b.cells q ≡ map.get c.cells q

-- after a cell was filled, emptied or given another content, all nodes but that cell do as before
abbrev pub CellChangesAlone : Type 0
CellChangesAlone = (b c : Workbook) (words : List (List ℕ)) (p : Place) → DifferInCell b c p → DoAlike b c words (Cell p ∷ [])

-- both have the same cells, and the same tree of each name but one
pub record DifferInName (b c : Workbook) (key : Key) : Type 0 where
  pub cells : b.cells ≡ c.cells
  pub trees : (other : Key) → ¬ (other ≡ key) → tree_in b.names other ≡ tree_in c.names other

-- the tree reads a name by this word, given in small letters
abbrev pub UsesWord : Term Corner → List ℕ → Type 0
UsesWord t word = list_any (λ w. bytes_eq (folded w) word) (names_in t) ≡ true

-- the list has the name, and each node whose formula uses its word
pub record HaveUsers (b : Workbook) (words : List (List ℕ)) (key : Key) (changed : List Node) : Type 0 where
  pub itself : (a : Node) → node_at words a ≡ Some (book.name key) → IsTrue (has a changed)
  pub users : (a : Node) (x : book.Node) (t : Term Corner) → node_at words a ≡ Some x → tree_at b x ≡ Some t → UsesWord t key.word → IsTrue (has a changed)

-- after a name was added, removed or given another formula, all nodes do as before but the name and those whose formulas use
-- its word
abbrev pub NameChangesItsUsers : Type 0
NameChangesItsUsers = (b c : Workbook) (words : List (List ℕ)) (key : Key) (changed : List Node) → DifferInName b c key → HaveUsers b words key changed → DoAlike b c words changed
