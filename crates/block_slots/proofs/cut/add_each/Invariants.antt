use Rattle.std.proofs.Common.{◌≡◌, ◌++◌, map, take}
use Rattle.block_slots.specs.internal.Cuts.{slot_of}
use Rattle.block_slots.proofs.cut.add_each.Given as goal

-- the columns gone by are added
abbrev pub invariant-loop-segment : goal.invariant-loop-segment
invariant-loop-segment l = l.found.items ≡ l.initial.found.items ++ map (slot_of l.rows) (take l.segment-index l.cols)
