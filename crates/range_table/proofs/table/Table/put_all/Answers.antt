use Rattle.std.proofs.Common.{refl, subst}
use Rattle.range_table.proofs.Changing.{ArePut, put_first, put_inside, put_next}
use Rattle.range_table.proofs.table.Table.put_all.Goals as goal

pub numbers-init : goal.numbers-init
numbers-init c = put_first c.args.arrived.now c.args.self.now c.into_iter-number-iterator.result c.into_iter-number-iterator.ensures.into_iter_gives.0 c.into_iter-number-iterator.ensures.into_iter_gives.6

pub set-requires : goal.set-requires
set-requires c =
    put_inside c.args.arrived.now c.args.self.now c.numbers.self (c.in-Some.number.now, c.in-Some.state.now) c.next.new.self
    (subst (λ r. ArePut c.args.arrived.now c.args.self.now c.numbers.self r) c.in-Some.ensures.steps c.numbers.invariant) c.requires

pub numbers-preserved : goal.numbers-preserved
numbers-preserved c =
    put_next c.args.arrived.now c.args.self.now c.numbers.self c.set.new.self (c.in-Some.number.now, c.in-Some.state.now) c.next.new.self
    (subst (λ r. ArePut c.args.arrived.now c.args.self.now c.numbers.self r) c.in-Some.ensures.steps c.numbers.invariant) c.set.ensures.lines c.set.ensures.keys c.set.ensures.count c.set.ensures.states

pub returns-clause-states : goal.returns-clause-states
returns-clause-states c n = (subst (λ r. ArePut c.args.arrived.now c.args.self.now c.numbers.self r) c.in-None.ensures.steps.0 c.numbers.invariant).put n refl
