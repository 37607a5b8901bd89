use Rattle.recalc_core.proofs.Linking.{linking_holds}
use Rattle.recalc_core.proofs.laws.linking_holds.Goals as goal

pub returns : goal.returns
returns c = linking_holds
