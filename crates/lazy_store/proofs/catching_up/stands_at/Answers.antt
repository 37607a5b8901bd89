use Rattle.std.proofs.Common.{sym}
use Rattle.lazy_store.proofs.catching_up.stands_at.Goals as goal

pub stands_at-requires-clause-coherent : goal.stands_at-requires-clause-coherent
stands_at-requires-clause-coherent c = c.requires.coherent c.args.id c.in-Some.holder.now (sym c.in-Some.ensures.value)
