use Rattle.std.proofs.Common.{◌≡◌, subst, true}
use Rattle.std.proofs.lemmas.Bool.{false≢true}
use Rattle.std.proofs.lemmas.List.{take_all}
use Rattle.needs_order.specs.Needs.{has}
use Rattle.range_table.specs.internal.GivenUp.{GivesUp}
use Rattle.range_table.proofs.GivingUp.{given_next, gives_nothing}
use Rattle.range_table.proofs.giving_up.give_up_filed.Goals as goal

pub numbers-init : goal.numbers-init
numbers-init c = gives_nothing c.args.at _ c.args.table.now (λ n h. false≢true h)

pub numbers-preserved : goal.numbers-preserved
numbers-preserved c = given_next c.args.at c.args.table.now c.numbers.table c.give_up_one.new.table c.args.numbers.now c.numbers.number-index c.numbers-test.true c.numbers.invariant c.give_up_one.ensures

pub returns : goal.returns
returns c = subst (λ l. GivesUp c.args.at (λ n. has n l ≡ true) c.args.table.now c.numbers.table) (take_all c.numbers.number-index c.args.numbers.now c.numbers-test.false) c.numbers.invariant
