use Rattle.std.proofs.Common.{◌∙◌, ap, sym, take, ◌++◌}
use Rattle.std.specs.List.{filter_map, position}
use Rattle.std.specs.Option.{option_to_list}
use Rattle.std.proofs.lemmas.List.{take_all}
use Rattle.block_index.specs.internal.Keys.{key_at, same_key}
use Rattle.block_index.proofs.Filing.{slots_are_slots}
use Rattle.block_index.proofs.Tests.{filter_map_more}
use Rattle.block_index.proofs.index.BlockIndex.slots_at.Goals as goal

pub sizes-preserved : goal.sizes-preserved
sizes-preserved c =
    c.in_ok-push_some.ensures
    ∙ (ap (λ xs. xs ++ option_to_list c.slot_at.result) c.sizes.invariant
    ∙ (ap (λ r. filter_map (λ z. position (same_key (key_at c.args.sheet c.args.row c.args.col z)) c.args.self.now.slots.keys) (take c.sizes.size-index c.deref-size-items.result.now) ++ option_to_list r) c.slot_at.ensures
    ∙ sym (filter_map_more (λ z. position (same_key (key_at c.args.sheet c.args.row c.args.col z)) c.args.self.now.slots.keys) c.deref-size-items.result.now c.sizes.size-index _ c.sizes-test.true)))

pub returns-clause-slots : goal.returns-clause-slots
returns-clause-slots c =
    c.sizes.invariant ∙ ap (filter_map (λ z. position (same_key (key_at c.args.sheet c.args.row c.args.col z)) c.args.self.now.slots.keys)) (take_all c.sizes.size-index c.deref-size-items.result.now c.sizes-test.false ∙ c.deref-size-items.ensures.value)

pub returns-in_err-push_some-clause-inside : goal.returns-in_err-push_some-clause-inside
returns-in_err-push_some-clause-inside c s = slots_are_slots c.args.self.now c.args.sheet c.args.row c.args.col s

pub returns-clause-inside : goal.returns-clause-inside
returns-clause-inside c s = slots_are_slots c.args.self.now c.args.sheet c.args.row c.args.col s
