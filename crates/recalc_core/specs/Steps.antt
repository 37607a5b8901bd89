-- How many steps a recalculation takes. Source: this project's own.
use Rattle.std.specs.Prelude.{◌+◌, ◌≤◌, ℕ, ℤ, List, Option, Some, None, IsTrue}
use Rattle.std.specs.List.{sum_by}
use Rattle.custom_fn.specs.declared.rule.Rule.{Rule}
use Rattle.formula_tree.specs.Reference.{sheet_of}
use Rattle.formula_tree.specs.Term.{Term}
use Rattle.formula_tree.specs.declared.reference.Corner.{Corner}
use Rattle.calc_terms.specs.Cost.{cost}
use Rattle.book_values.specs.Values.{value_of, world_of}
use Rattle.book_values.specs.Workbook as book
use Rattle.book_values.specs.Workbook.{Workbook, home_of, tree_at}
use Rattle.dep_graph.specs.Needs.{Links, Reaches}
use Rattle.dep_graph.specs.Nodes.{has}
use Rattle.dep_graph.specs.Walks.{IsOnce}
use Rattle.dep_graph.specs.declared.node.Node.{Node}
use Rattle.recalc_core.specs.Nodes.{node_at}

-- how many steps a formula on a sheet takes at most where all cells and names show their values
abbrev pub formula_cost : Workbook → List (List ℕ × Rule) → ℤ → ℕ → Term Corner → ℕ
formula_cost b customs today sheet t = cost (world_of b.names today (value_of b customs today)) sheet t

-- and the formula of a place or a name; none where there is no formula
abbrev pub tree_cost : Workbook → List (List ℕ × Rule) → ℤ → ℕ → Option (Term Corner) → ℕ
tree_cost b customs today sheet (Some t) = formula_cost b customs today sheet t
tree_cost b customs today sheet None = 0

abbrev pub cost_of : Workbook → List (List ℕ × Rule) → ℤ → Option book.Node → ℕ
cost_of b customs today (Some x) = tree_cost b customs today (sheet_of (home_of x)) (tree_at b x)
cost_of b customs today None = 0

abbrev pub node_cost : Workbook → List (List ℕ) → List (List ℕ × Rule) → ℤ → Node → ℕ
node_cost b words customs today a = cost_of b customs today (node_at words a)

-- only nodes that reach a mark were worked out, each at most once, within the sum of what their formulas cost
abbrev pub TakesSteps : Workbook → List (List ℕ) → List (List ℕ × Rule) → ℤ → Links → List Node → ℕ → ℕ → Type 0
TakesSteps b words customs today links marks old new =
    (nodes : List Node) × IsOnce nodes × ((a : Node) → IsTrue (has a nodes) → Reaches links marks a) × (new ≤ old + sum_by (node_cost b words customs today) nodes)
