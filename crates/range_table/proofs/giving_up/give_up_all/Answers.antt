use Rattle.std.proofs.Common.{◌<◌, arith, length}
use Rattle.range_table.proofs.GivingUp.{below_next, gives_fewer, gives_nothing}
use Rattle.range_table.proofs.giving_up.give_up_all.Goals as goal

pub numbers-init : goal.numbers-init
numbers-init c = gives_nothing c.args.at _ c.args.table.now (λ n h. omega (arith, h))

pub numbers-preserved : goal.numbers-preserved
numbers-preserved c = below_next c.args.at c.args.table.now c.numbers.table c.give_up_one.new.table c.numbers.number c.numbers.invariant c.give_up_one.ensures

pub returns : goal.returns
returns c =
    gives_fewer c.args.at (λ n. n < c.numbers.number) (λ n. n < length c.args.table.now.states.items) c.args.table.now c.numbers.table (λ n low. omega (arith, low, c.numbers-test.false, c.len-number-end.ensures)) c.numbers.invariant
