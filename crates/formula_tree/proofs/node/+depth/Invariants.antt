use Rattle.std.proofs.Common.{◌≡◌, ◌≤◌, min, max, drop}
use Rattle.formula_tree.specs.Term.{depth_of_all}
use Rattle.formula_tree.specs.Relative.{relative_list}
use Rattle.formula_tree.proofs.RelativeNodes.{relatives}
use Rattle.formula_tree.proofs.node.+depth.Given as goal

-- the deepest so far and what is still to come are together as deep as all
abbrev pub invariant-TreeList::deepest-arguments : goal.invariant-TreeList::deepest-arguments
invariant-TreeList::deepest-arguments l = record {
  small : l.deepest ≤ 4294967295;
  together : min (max l.deepest (depth_of_all (relatives (drop l.argument-index l.argument-items)))) 4294967295 ≡ min (depth_of_all (relative_list l.self)) 4294967295;
}
