-- Kept values, and which of them are right. Source: this project's own.
use Rattle.std.specs.Prelude.{◌≡◌, ℕ, ℤ, Bool, if◌then◌else◌, List, Option, Some, None, is_some}
use Rattle.std.specs.FinMap as map
use Rattle.cell_value.specs.declared.scalar.Scalar.{Scalar}
use Rattle.custom_fn.specs.declared.rule.Rule.{Rule}
use Rattle.book_values.specs.Names.{tree_in}
use Rattle.book_values.specs.Values.{value_of}
use Rattle.book_values.specs.Workbook as book
use Rattle.book_values.specs.Workbook.{Workbook}
use Rattle.dep_graph.specs.Laws.{IsNoRange}
use Rattle.dep_graph.specs.Needs.{Links, Reaches}
use Rattle.dep_graph.specs.declared.node.Node.{Node}
use Rattle.recalc_core.specs.Nodes.{node_at}

-- the value that is kept of each node, where one is
abbrev pub Kept : Type 0
Kept = Node → Option Scalar

-- the workbook has the node: a filled cell, or a name that it knows
abbrev pub stands : Workbook → book.Node → Bool
stands b (book.place p) = is_some (map.get b.cells p)
stands b (book.name key) = is_some (tree_in b.names key)

-- what should be kept of it: its value, and nothing where the workbook hasn't got it
abbrev pub expected : Workbook → List (List ℕ × Rule) → ℤ → book.Node → Option Scalar
expected b customs today x = if stands b x then Some (value_of b customs today x) else None

-- and of a node of the graph: nothing where it is neither a place nor a name that could be known
abbrev pub expected_at : Workbook → List (List ℕ × Rule) → ℤ → Option book.Node → Option Scalar
expected_at b customs today (Some x) = expected b customs today x
expected_at b customs today None = None

-- what is kept of the node is what should be; of a range nothing is asked
abbrev pub IsRight : Workbook → List (List ℕ) → List (List ℕ × Rule) → ℤ → Kept → Node → Type 0
IsRight b words customs today kept a = IsNoRange a → kept a ≡ expected_at b customs today (node_at words a)

-- what is kept of every node is
abbrev pub AreRight : Workbook → List (List ℕ) → List (List ℕ × Rule) → ℤ → Kept → Type 0
AreRight b words customs today kept = (a : Node) → IsRight b words customs today kept a

-- the marks fit what is kept: it is right of every node that reaches no mark
abbrev pub IsFit : Workbook → List (List ℕ) → List (List ℕ × Rule) → ℤ → Links → List Node → Kept → Type 0
IsFit b words customs today links marks kept = (a : Node) → ¬ Reaches links marks a → IsRight b words customs today kept a
