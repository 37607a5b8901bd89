use Rattle.std.proofs.Common.{◌∙◌, sym}
use Rattle.tree_rewrite.proofs.WholeAreas.{area_after-inside}
use Rattle.run_walk.proofs.areas.carried_area.Goals as goal

pub returns-then-eq-clause-inside : goal.returns-then-eq-clause-inside
returns-then-eq-clause-inside c = λ inside. area_after-inside c.args.s.now c.args.lines c.args.b c.in_ok-after.after c.requires inside (sym c.moved_area.ensures ∙ c.in_ok-after.was)
