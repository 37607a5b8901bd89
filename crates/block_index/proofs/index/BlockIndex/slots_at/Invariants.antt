use Rattle.std.proofs.Common.{◌≡◌, take}
use Rattle.std.specs.List.{filter_map, position}
use Rattle.block_index.specs.internal.Keys.{key_at, same_key}
use Rattle.block_index.proofs.index.BlockIndex.slots_at.Given as goal

-- the slots of the sizes gone by
abbrev pub invariant-sizes : goal.invariant-sizes
invariant-sizes l = l.found.items ≡ filter_map (λ z. position (same_key (key_at l.sheet l.row l.col z)) l.self.slots.keys) (take l.size-index l.size-items)
