use Rattle.std.proofs.Common.{◌-◌}
use Rattle.block_slots.specs.internal.Cuts.{AreCut}
use Rattle.block_slots.proofs.cut.segments.Given as goal

-- the lines are cut up to the level
abbrev pub invariant-cutting : goal.invariant-cutting
invariant-cutting l = AreCut l.fn.lines l.level l.found.items l.rest

abbrev pub decreases-cutting : goal.decreases-cutting
decreases-cutting l = l.rest.end - l.rest.start
