use Rattle.std.proofs.Common.{arith, ◌<◌}
use Rattle.fix_num.proofs.Decimals.{ten_above, digit_below, rest_below, written_more, written_all, written_to_end}
use Rattle.fix_num.proofs.printing.push_decimals.Goals as goal

pub nonzero_div-rest : goal.nonzero_div-rest
nonzero_div-rest c = rw c.pow-unit.ensures (ten_above _)

pub nonzero_rem-rest : goal.nonzero_rem-rest
nonzero_rem-rest c = rw c.pow-unit.ensures (ten_above _)

pub push_digit-requires : goal.push_digit-requires
push_digit-requires c = rw c.pow-unit.ensures (digit_below c.decimals.place c.decimals.rest c.decimals-test.true c.decimals.invariant.below)

pub decimals-preserved : goal.decimals-preserved
decimals-preserved c =
    let some : 0 < c.decimals.rest = omega (arith, c.if-rest-eq0.false) in
    let now = rw c.pow-unit.ensures at c.in_ok-push_digit.ensures in
    record {
      written = rw c.pow-unit.ensures (written_more _ _ _ c.decimals.place c.decimals.rest c.decimals-test.true some c.decimals.invariant.written now);
      below = rw c.pow-unit.ensures (rest_below c.decimals.place c.decimals.rest c.decimals-test.true);
    }

pub returns-after-decimals : goal.returns-after-decimals
returns-after-decimals c = written_to_end _ _ _ c.decimals.rest (omega arith) c.decimals.invariant.written

pub returns-then-rest-eq0 : goal.returns-then-rest-eq0
returns-then-rest-eq0 c = written_all _ _ _ c.decimals.rest c.if-rest-eq0.true c.decimals.invariant.written
