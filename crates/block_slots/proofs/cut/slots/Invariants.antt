use Rattle.std.proofs.Common.{◌≡◌, take}
use Rattle.block_slots.specs.internal.Cuts.{crossed}
use Rattle.block_slots.proofs.cut.slots.Given as goal

-- the rows gone by are crossed with all columns
abbrev pub invariant-rows : goal.invariant-rows
invariant-rows l = l.found.items ≡ crossed (take l.segment-index l.segment-items) l.col_segments.items
