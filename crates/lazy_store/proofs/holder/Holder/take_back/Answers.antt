use Rattle.formula_tree.specs.Pooled.{held}
use Rattle.formula_tree.specs.Relative.{relative}
use Rattle.lazy_store.proofs.Stepping.{front-changed}
use Rattle.lazy_store.proofs.holder.Holder.take_back.Goals as goal

pub returns-in_ok-backward-in-None-clause-pool : goal.returns-in_ok-backward-in-None-clause-pool
returns-in_ok-backward-in-None-clause-pool c =
    let made = c.in_ok-backward-in-None in
    front-changed (held c.args.pool.now) (held c.backward.new.pool) (relative c.args.self.now.tree.value) (relative made.field-0.0.value) made.ensures.held
