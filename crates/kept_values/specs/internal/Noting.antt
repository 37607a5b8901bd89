-- Nodes whose formulas pass a test, noted one after another.
use Rattle.std.specs.Prelude.{◌≡◌, ℕ, Bool, true, List, Some, IsTrue}
use Rattle.formula_tree.specs.Term.{Term}
use Rattle.formula_tree.specs.declared.reference.Corner.{Corner}
use Rattle.book_values.specs.Workbook as book
use Rattle.book_values.specs.Workbook.{Workbook, tree_at}
use Rattle.dep_graph.specs.Nodes.{has}
use Rattle.dep_graph.specs.declared.node.Node.{Node}
use Rattle.recalc_core.specs.Nodes.{node_at}

-- where the node's formula passes, the node is noted
abbrev pub IsNoted : (book.Node → Term Corner → Bool) → Workbook → List (List ℕ) → (Node → Bool) → Node → Type 0
IsNoted test b words noted a = (x : book.Node) (t : Term Corner) → node_at words a ≡ Some x → tree_at b x ≡ Some t → test x t ≡ true → noted a ≡ true

-- so is each of the nodes
abbrev pub AreNotedAmong : (book.Node → Term Corner → Bool) → Workbook → List (List ℕ) → List Node → (Node → Bool) → Type 0
AreNotedAmong test b words nodes noted = (a : Node) → IsTrue (has a nodes) → IsNoted test b words noted a
