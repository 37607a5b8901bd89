use Rattle.std.proofs.Common.{◌≡◌, ◌≤◌, ◌⊎◌}
use Rattle.dep_graph.specs.internal.Touches.{AddsBetween}
use Rattle.dep_graph.proofs.found.add_between.Given as goal

-- the numbers gone by were added
abbrev pub invariant-numbers : goal.invariant-numbers
invariant-numbers l = record {
  adds : AddsBetween l.first l.number l.fn.numbers.keys l.numbers.keys;
  low : (l.number ≤ l.end) ⊎ (l.number ≡ l.first);
}
