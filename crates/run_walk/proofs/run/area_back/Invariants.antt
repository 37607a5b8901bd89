use Rattle.std.proofs.Common.{◌≡◌, take}
use Rattle.tree_rewrite.specs.Rewritten.{area_before}
use Rattle.run_walk.specs.Run.{back_all}
use Rattle.run_walk.proofs.run.area_back.Given as goal

-- what is left of the run takes it back from here as the whole run takes it back
abbrev pub invariant-run : goal.invariant-run
invariant-run l = back_all (λ s. area_before s l.lines) (take l.index l.run) l.at ≡ back_all (λ s. area_before s l.lines) l.run l.fn.b
