use Rattle.lazy_store.proofs.Facts.{histories-are-standings}
use Rattle.lazy_store.proofs.laws.histories_are_standings.Goals as goal

pub returns : goal.returns
returns c = histories-are-standings
