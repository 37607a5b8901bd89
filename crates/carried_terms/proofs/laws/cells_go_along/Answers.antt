use Rattle.carried_terms.proofs.Cells.{cells_go_along}
use Rattle.carried_terms.proofs.laws.cells_go_along.Goals as goal

pub returns : goal.returns
returns c = cells_go_along
