use Rattle.fix_num.proofs.Magnitudes.{rounded_is, rounded_small}
use Rattle.fix_num.proofs.reading.rounded.Goals as goal

pub returns-clause-rounded : goal.returns-clause-rounded
returns-clause-rounded c = rounded_is c.args.decimals.now _ _ _ c.requires c.min.ensures c.value_at_most.ensures c.pow.ensures

pub returns-clause-small : goal.returns-clause-small
returns-clause-small c = rounded_small c.args.decimals.now _ _ _ c.requires c.min.ensures c.value_at_most.ensures c.pow.ensures
