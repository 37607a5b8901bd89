use Rattle.std.proofs.Common.{◌≡◌, Some, take}
use Rattle.run_walk.specs.Run.{IsCarriedOver, area_over}
use Rattle.run_walk.proofs.free.steps_of_block.Given as goal

-- the operations so far took the block here, and give it back
abbrev pub invariant-run : goal.invariant-run
invariant-run l = record {
  here : area_over (take l.index l.run) l.lines l.fn.b ≡ Some l.at;
  back : IsCarriedOver (take l.index l.run) l.lines l.fn.b;
}
