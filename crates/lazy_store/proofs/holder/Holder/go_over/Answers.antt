use Rattle.formula_tree.specs.Pooled.{held}
use Rattle.formula_tree.specs.Relative.{relative}
use Rattle.lazy_store.proofs.Stepping.{front-changed}
use Rattle.lazy_store.proofs.holder.Holder.go_over.Goals as goal

pub returns-clause-pool : goal.returns-clause-pool
returns-clause-pool c =
    front-changed (held c.args.pool.now) (held c.forward_by.new.pool) (relative c.args.self.now.tree.value) (relative c.in_ok-tree.tree.value) c.in_ok-tree.ensures.held
