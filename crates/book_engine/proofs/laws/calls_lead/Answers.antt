use Rattle.book_engine.proofs.AnyCalls.{lead}
use Rattle.book_engine.proofs.laws.calls_lead.Goals as goal

pub returns : goal.returns
returns g c = lead _ _ _
