use Rattle.std.proofs.Common.{◌≡◌, sym, subst, length}
use Rattle.block_index.specs.internal.Keys.{place_of}
use Rattle.block_index.proofs.Filing.{found_size, none_place}
use Rattle.block_index.proofs.index.BlockIndex.slot_under.Goals as goal

pub add_slot-requires-clause-new : goal.add_slot-requires-clause-new
add_slot-requires-clause-new c =
    subst (λ slots. length slots.keys ≡ place_of slots.keys c.args.key) (sym c.use_size.ensures.slots) (none_place c.args.self.now.slots.keys c.args.key c.in-None.ensures.index)

pub returns-in-Some-clause-size : goal.returns-in-Some-clause-size
returns-in-Some-clause-size c = found_size c.args.self.now c.args.key c.in-Some.place c.in-Some.ensures.index
