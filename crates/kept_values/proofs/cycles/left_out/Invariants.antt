use Rattle.std.proofs.Common.{◌≡◌, ◌++◌, drop, filter, not}
use Rattle.dep_graph.specs.Nodes.{has}
use Rattle.dep_graph.specs.declared.node.Node.TheVariants.{Cell}
use Rattle.kept_values.proofs.cycles.left_out.Given as goal

-- what was left out so far, and what the rest leaves out, are all
abbrev pub invariant-places : goal.invariant-places
invariant-places l = l.left.items ++ filter (λ p. not (has (Cell p) l.set.keys)) (drop l.place-index l.places) ≡ filter (λ p. not (has (Cell p) l.set.keys)) l.places
