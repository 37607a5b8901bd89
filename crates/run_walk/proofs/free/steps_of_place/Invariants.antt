use Rattle.std.proofs.Common.{◌≡◌, Some, take}
use Rattle.run_walk.specs.Run.{place_over}
use Rattle.run_walk.proofs.free.steps_of_place.Given as goal

-- the operations so far took the place here
abbrev pub invariant-run : goal.invariant-run
invariant-run l = place_over (take l.index l.run) l.fn.p ≡ Some l.at
