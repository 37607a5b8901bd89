use Rattle.lazy_store.proofs.Facts.{standings-follow}
use Rattle.lazy_store.proofs.laws.standings_follow.Goals as goal

pub returns : goal.returns
returns c = standings-follow
