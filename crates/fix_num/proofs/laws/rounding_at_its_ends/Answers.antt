use Rattle.fix_num.proofs.Rounded.{rounded_to_fine, rounded_to_far}
use Rattle.fix_num.proofs.laws.rounding_at_its_ends.Goals as goal

pub returns : goal.returns
returns c = λ m places inside. (rounded_to_fine m places, rounded_to_far m places inside)
