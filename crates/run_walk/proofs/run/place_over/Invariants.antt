use Rattle.std.proofs.Common.{◌≡◌, drop}
use Rattle.shift_core.specs.Tables.{place_after}
use Rattle.run_walk.specs.Run.{over_all}
use Rattle.run_walk.proofs.run.place_over.Given as goal

-- what is left of the run takes it from here where the whole run takes it
abbrev pub invariant-run : goal.invariant-run
invariant-run l = over_all place_after (drop l.s-index l.run) l.at ≡ over_all place_after l.run l.fn.p
