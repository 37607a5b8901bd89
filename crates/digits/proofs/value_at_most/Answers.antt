use Rattle.digits.proofs.Numerals.{value_at_most_more}
use Rattle.digits.proofs.value_at_most.Goals as goal

pub digits-preserved : goal.digits-preserved
digits-preserved c =
    let more = value_at_most_more c.args.digits.now c.digits.byte-index c.args.most c.digits.total c.digits-test.true c.digits.invariant.0 in
    (cc, c.digits.invariant.1)
