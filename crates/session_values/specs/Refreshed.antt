-- What a refresh of a session's values leaves and costs. Source: this project's own.
use Rattle.std.specs.Prelude.{◌≡◌, ◌+◌, ◌≤◌, ℕ, ℤ, List, [], Option, Some, None}
use Rattle.std.specs.List.{sum_by}
use Rattle.custom_fn.specs.declared.rule.Rule.{Rule}
use Rattle.book_values.specs.Workbook.{Workbook}
use Rattle.dep_graph.specs.Walks.{IsOnce}
use Rattle.dep_graph.specs.declared.node.Node.{Node}
use Rattle.recalc_core.specs.Steps.{node_cost}
use Rattle.kept_values.specs.Values.{TakesSteps, marks_in}
use Rattle.kept_values.specs.declared.values.Values.{Values}

-- something is kept, and nothing of it is marked
abbrev pub IsUnmarked : Option Values → Type 0
IsUnmarked None = ⊥
IsUnmarked (Some v) = marks_in v ≡ []

-- only what is marked, or what its needs lead to, was worked out, each at most once; where nothing was kept, any place and any name
-- may have been, each at most once
abbrev pub TakesStepsIn : Workbook → List (List ℕ) → List (List ℕ × Rule) → ℤ → Option Values → ℕ → ℕ → Type 0
TakesStepsIn b words customs today None old new = (nodes : List Node) × IsOnce nodes × (new ≤ old + sum_by (node_cost b words customs today) nodes)
TakesStepsIn b words customs today (Some v) old new = TakesSteps b words customs today (marks_in v) old new
