-- Which cells and names mention a place in their formulas. Source: this project's own.
use Rattle.std.specs.Prelude.{◌≡◌, ℕ, Bool, List}
use Rattle.cell_addr.specs.declared.place.Place.{Place}
use Rattle.calc_terms.specs.Needs.{mentions}
use Rattle.book_values.specs.Workbook as book
use Rattle.book_values.specs.Workbook.{Workbook, tree_at}
use Rattle.dep_graph.specs.Nodes.{has}
use Rattle.dep_graph.specs.Walks.{IsOnce}
use Rattle.dep_graph.specs.declared.node.Node.{Node}
use Rattle.kept_values.specs.Values.{passes}
use Rattle.recalc_core.specs.Nodes.{node_at}

-- tests whether the formula of a place or a name mentions a place
abbrev pub mentions_from : Workbook → Place → book.Node → Bool
mentions_from b p x = passes (λ t. mentions t p) (tree_at b x)

-- and the formula of a node
abbrev pub mentions_at : Workbook → List (List ℕ) → Place → Node → Bool
mentions_at b words p a = passes (mentions_from b p) (node_at words a)

-- exactly the nodes whose formulas do, each once
abbrev pub AreUsersIn : Workbook → List (List ℕ) → Place → List Node → Type 0
AreUsersIn b words p nodes = ((a : Node) → has a nodes ≡ mentions_at b words p a) × IsOnce nodes
