use Rattle.std.proofs.Common.{◌≡◌, ◌∙◌, sym, subst, true, get_or}
use Rattle.std.specs.List.{list_any}
use Rattle.std.proofs.lemmas.Bool.{false≢true}
use Rattle.std.proofs.lemmas.List.{take_all}
use Rattle.block_index.specs.Index.{filed_in}
use Rattle.needs_order.specs.Needs.{has}
use Rattle.needs_order.proofs.Lists.{has_at}
use Rattle.touch_index.proofs.Found.{slots_next, still_appended, still_still}
use Rattle.touch_index.proofs.touched.find_at.Goals as goal

pub find_filed-requires : goal.find_filed-requires
find_filed-requires c = c.in_ok-slots.ensures.inside _
    (subst (λ l. has (get_or c.deref-slot-items.result.now c.slots.slot-index 0) l ≡ true) (c.deref-slot-items.ensures.value ∙ c.in_ok-slots.ensures.slots) (has_at c.deref-slot-items.result.now c.slots.slot-index c.slots-test.true))

pub slots-init : goal.slots-init
slots-init c = record { still = λ n h. h; found = λ n h. absurd (false≢true h) }

pub slots-preserved : goal.slots-preserved
slots-preserved c = record {
  still = still_still c.args.found.now.items c.slots.found.items c.find_filed.new.found.items c.slots.invariant.still (still_appended c.slots.found.items c.find_filed.new.found.items _ c.in_ok-find_filed.ensures);
  found = λ n. slots_next (filed_in c.args.index.now) c.deref-slot-items.result.now c.slots.slot-index 0 n c.slots.found.items c.find_filed.new.found.items c.slots-test.true c.in_ok-find_filed.ensures (c.slots.invariant.found n);
}

pub returns-clause-still : goal.returns-clause-still
returns-clause-still c = c.slots.invariant.still

pub returns-clause-found : goal.returns-clause-found
returns-clause-found c = λ n h. c.slots.invariant.found n (subst (λ l. list_any (λ s. has n (filed_in c.args.index.now s)) l ≡ true)
    (sym (take_all c.slots.slot-index c.deref-slot-items.result.now c.slots-test.false ∙ (c.deref-slot-items.ensures.value ∙ c.in_ok-slots.ensures.slots))) h)
