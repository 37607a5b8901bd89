use Rattle.func_text.proofs.FromTheLeft.{from_the_left}
use Rattle.func_text.proofs.laws.replaced_from_the_left.Goals as goal

pub returns : goal.returns
returns c = from_the_left
