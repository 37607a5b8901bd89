use Rattle.session_values.proofs.Followed.{cells_follow}
use Rattle.session_values.proofs.laws.cells_follow.Goals as goal

pub returns : goal.returns
returns c = cells_follow
