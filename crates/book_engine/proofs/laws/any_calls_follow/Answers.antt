use Rattle.book_engine.proofs.AnyCalls.{follow}
use Rattle.book_engine.proofs.laws.any_calls_follow.Goals as goal

pub returns : goal.returns
returns g c = follow _ _
