use Rattle.book_values.proofs.Networks.{cycles_return}
use Rattle.book_values.proofs.laws.cycles_return.Goals as goal

pub returns : goal.returns
returns c = cycles_return
