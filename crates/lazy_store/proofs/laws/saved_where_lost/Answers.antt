use Rattle.lazy_store.proofs.Facts.{saved-where-lost}
use Rattle.lazy_store.proofs.laws.saved_where_lost.Goals as goal

pub returns : goal.returns
returns c = saved-where-lost
