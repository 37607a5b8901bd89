use Rattle.lazy_store.proofs.Tables.{found-in}
use Rattle.lazy_store.proofs.recent.Recent.beyond.Goals as goal

pub returns-then-position-self : goal.returns-then-position-self
returns-then-position-self c = λ id h is above. found-in c.args.holders.now id h is
