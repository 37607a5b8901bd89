use Rattle.std.proofs.Common.{◌≡◌, List, ◌++◌}
use Rattle.std.specs.HashMap as hash
use Rattle.std.specs.List.{IsDistinct}
use Rattle.std.specs.Map.{keys_of, lookup}
use Rattle.cell_value.specs.declared.scalar.Scalar.{Scalar}
use Rattle.dep_graph.specs.Nodes.{same_node}
use Rattle.dep_graph.specs.declared.node.Node.{Node}
use Rattle.recalc_core.proofs.kept.copied_values.Given as goal

-- the copy has the entries so far
abbrev pub invariant-values : goal.invariant-values
invariant-values l =
    (done : List (Node × Scalar)) × (done ++ l.node-iterator ≡ l.values.entries) × ((a : Node) → hash.get same_node l.copy a ≡ lookup (same_node a) done)
    × IsDistinct same_node (keys_of l.values.entries)
