use Rattle.formula_tree.specs.Relative.{relative}
use Rattle.formula_tree.proofs.PooledTrees.{distinct}
use Rattle.formula_tree.proofs.pool.Pool.len.Goals as goal

pub returns-clause-distinct : goal.returns-clause-distinct
returns-clause-distinct c = distinct (λ k. relative k.tree.value) c.args.self.now.trees.keys c.len.ensures.unique
