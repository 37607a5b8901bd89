use Rattle.std.proofs.Common.{◌≡◌, ◌++◌, map, take}
use Rattle.dep_graph.specs.Nodes.{items_of}
use Rattle.kept_steps.specs.internal.GivenCell.{name_node}
use Rattle.kept_steps.proofs.nodes.add_names.Given as goal

abbrev pub invariant-names : goal.invariant-names
invariant-names l = items_of l.nodes ≡ items_of l.fn.nodes ++ map (λ e. name_node e.0) (take l.key-index l.names)
