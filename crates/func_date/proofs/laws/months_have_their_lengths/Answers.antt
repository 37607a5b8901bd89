use Rattle.func_date.proofs.Months.{months_have_their_lengths}
use Rattle.func_date.proofs.laws.months_have_their_lengths.Goals as goal

pub returns : goal.returns
returns c = months_have_their_lengths
