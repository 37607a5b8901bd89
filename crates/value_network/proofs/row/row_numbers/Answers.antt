use Rattle.std.proofs.Common.{◌∙◌, ap, length, slice_index}
use Rattle.value_network.specs.Row.{number_of, slot_at}
use Rattle.value_network.proofs.Rows.{numbers_more}
use Rattle.value_network.proofs.row.row_numbers.Goals as goal

pub slots-preserved : goal.slots-preserved
slots-preserved c =
    c.in_ok-push.ensures.items ∙ numbers_more c.args.row.now c.slots.slot-index c.slots.numbers.items c.next_number-number.result c.slots.invariant (c.next_number-number.ensures ∙ ap (λ numbers. number_of (λ place. slice_index numbers place) (length numbers) (slot_at c.args.row.now c.slots.slot-index)) c.deref.ensures.value)
