use Rattle.std.proofs.Common.{sym}
use Rattle.lazy_store.proofs.lazy.Lazy.tree_at.Goals as goal

pub found_at-requires-clause-coherent : goal.found_at-requires-clause-coherent
found_at-requires-clause-coherent c = c.args.self.now.coherent c.args.id c.in-Some.holder.now (sym c.in-Some.ensures.value)
