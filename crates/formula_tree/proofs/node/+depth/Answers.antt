use Rattle.std.proofs.Common.{◌≡◌, min, max, arith, [], drop}
use Rattle.std.proofs.lemmas.List.{drop_all}
use Rattle.formula_tree.specs.Term.{depth_of_all}
use Rattle.formula_tree.specs.Relative.{relative_list}
use Rattle.formula_tree.proofs.RelativeNodes.{relative_list-trees}
use Rattle.formula_tree.proofs.node.+depth.Goals as goal

pub TreeList::deepest-returns : goal.TreeList::deepest-returns
TreeList::deepest-returns t c =
    let past : drop c.arguments.argument-index c.as_slice-argument-items.result.now ≡ [] = drop_all c.arguments.argument-index c.as_slice-argument-items.result.now (omega arith) in
    let done : min (max c.arguments.deepest 0) 4294967295 ≡ min (depth_of_all (relative_list c.args.self.now)) 4294967295 = rw past at c.arguments.invariant.together in
    omega arith

pub TreeList::deepest-arguments-init : goal.TreeList::deepest-arguments-init
TreeList::deepest-arguments-init t c = record {
  small = omega arith;
  together = rw (c.as_slice-argument-items.ensures.value, relative_list-trees c.args.self.now) (omega arith);
}
