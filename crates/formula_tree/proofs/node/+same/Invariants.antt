use Rattle.std.proofs.Common.{◌≡◌, ◌↔◌, length, drop}
use Rattle.formula_tree.specs.Relative.{relative_list}
use Rattle.formula_tree.proofs.RelativeNodes.{relatives}
use Rattle.formula_tree.proofs.node.+same.Given as goal

-- the lists are as long, and equal exactly where what is left of them is
abbrev pub invariant-TreeList::same-arguments : goal.invariant-TreeList::same-arguments
invariant-TreeList::same-arguments l = record {
  long : length l.firsts ≡ length l.seconds;
  rest : (relatives (drop l.index l.firsts) ≡ relatives (drop l.index l.seconds)) ↔ (relative_list l.self ≡ relative_list l.other);
}
