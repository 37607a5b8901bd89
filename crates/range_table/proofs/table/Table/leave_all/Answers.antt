use Rattle.std.proofs.Common.{subst}
use Rattle.std.proofs.lemmas.List.{take_all}
use Rattle.range_table.proofs.Changing.{AreLeft, left_next, none_left}
use Rattle.range_table.proofs.table.Table.leave_all.Goals as goal

pub numbers-init : goal.numbers-init
numbers-init c = none_left c.args.self.now

pub numbers-preserved : goal.numbers-preserved
numbers-preserved c =
    left_next c.args.left.now c.numbers.number-index c.args.self.now c.numbers.self c.leave_one.new.self c.numbers-test.true c.numbers.invariant
    (record { lines = c.leave_one.ensures.lines; keys = c.leave_one.ensures.keys; count = c.leave_one.ensures.count; states = c.leave_one.ensures.states })

pub returns-clause-states : goal.returns-clause-states
returns-clause-states c = (subst (λ l. AreLeft l c.args.self.now c.numbers.self) (take_all c.numbers.number-index c.args.left.now c.numbers-test.false) c.numbers.invariant).states
