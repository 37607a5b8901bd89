use Rattle.std.proofs.Common.{◌≡◌, drop}
use Rattle.tree_rewrite.specs.Rewritten.{area_after}
use Rattle.run_walk.specs.Run.{over_all}
use Rattle.run_walk.proofs.run.area_over.Given as goal

-- what is left of the run takes it from here where the whole run takes it
abbrev pub invariant-run : goal.invariant-run
invariant-run l = over_all (λ s. area_after s l.lines) (drop l.s-index l.run) l.at ≡ over_all (λ s. area_after s l.lines) l.run l.fn.b
