use Rattle.book_values.proofs.Networks.{nothing_else_unfolds}
use Rattle.book_values.proofs.laws.nothing_else_unfolds.Goals as goal

pub returns : goal.returns
returns c = nothing_else_unfolds
