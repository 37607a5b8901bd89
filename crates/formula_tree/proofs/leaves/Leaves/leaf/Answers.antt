use Rattle.std.proofs.Common.{◌∙◌, sym, ap}
use Rattle.formula_tree.specs.Relative.{relative}
use Rattle.formula_tree.proofs.PooledTrees.{found}
use Rattle.formula_tree.proofs.leaves.Leaves.leaf.Goals as goal

pub returns-in-Some : goal.returns-in-Some
returns-in-Some c =
    ap relative c.in_ok-clone-2.ensures.cases
    ∙ sym (found (λ k. relative k.tree.value) (relative c.in_ok-clone.field-0.value) c.args.self.now.trees.keys c.in-Some.known.now (sym c.in-Some.ensures.key))
    ∙ ap relative c.in_ok-clone.ensures.cases
