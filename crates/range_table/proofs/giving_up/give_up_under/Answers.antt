use Rattle.std.proofs.Common.{◌≡◌, get_or, subst, true}
use Rattle.std.specs.List.{list_any}
use Rattle.std.proofs.lemmas.Bool.{false≢true}
use Rattle.std.proofs.lemmas.List.{take_all}
use Rattle.block_index.specs.Index.{filed_in}
use Rattle.needs_order.specs.Needs.{has}
use Rattle.needs_order.proofs.Lists.{has_at}
use Rattle.range_table.specs.internal.GivenUp.{GivesUp}
use Rattle.range_table.proofs.GivingUp.{gives_nothing, slots_next}
use Rattle.range_table.proofs.giving_up.give_up_under.Goals as goal

pub slots-init : goal.slots-init
slots-init c = gives_nothing c.args.at _ c.args.table.now (λ n h. false≢true h)

pub filed-requires : goal.filed-requires
filed-requires c = c.requires (get_or c.args.slots.now c.slots.slot-index 0) (has_at c.args.slots.now c.slots.slot-index c.slots-test.true)

pub slots-preserved : goal.slots-preserved
slots-preserved c =
    slots_next c.args.at c.args.table.now c.slots.table c.give_up_filed.new.table (filed_in c.args.cells.now) c.args.slots.now c.slots.slot-index c.slots-test.true c.slots.invariant
    (subst (λ l. GivesUp c.args.at (λ n. has n l ≡ true) c.slots.table c.give_up_filed.new.table) c.filed.ensures c.give_up_filed.ensures)

pub returns : goal.returns
returns c =
    subst (λ l. GivesUp c.args.at (λ n. list_any (λ s. has n (filed_in c.args.cells.now s)) l ≡ true) c.args.table.now c.slots.table) (take_all c.slots.slot-index c.args.slots.now c.slots-test.false) c.slots.invariant
