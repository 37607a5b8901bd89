use Rattle.std.proofs.Common.{◌≡◌, ◌≢◌, ◌∙◌, sym, ap, subst, arith, length, take, Some, []}
use Rattle.formula_tree.specs.Relative.{relative}
use Rattle.formula_tree.specs.Term.{mapped}
use Rattle.run_walk.specs.Run.{AreSound, home_back}
use Rattle.run_walk.specs.internal.Walked.{area_walked, cell_walked}
use Rattle.run_walk.proofs.Over.{home_back-inside, not-empty, take-whole}
use Rattle.run_walk.proofs.Walking.{taken-each, walked-at_home, walked-fits}
use Rattle.tree_rewrite.specs.declared.direction.Direction.TheVariants.{Backward}
use Rattle.run_walk.proofs.backward.backward_over.Goals as goal

pub replaced-requires : goal.replaced-requires
replaced-requires c =
    let run = c.args.run.now in
    let all = c.over.result.run.now in
    let long : length all ≡ length run = ap length c.over.ensures in
    let goes : home_back run c.args.home ≡ Some c.in-Some.to = sym c.home_back.ensures ∙ c.in-Some.is in
    taken-each all (length run) c.args.home c.in-Some.to (subst AreSound (sym c.over.ensures) c.requires.sound) (omega (arith, long))
    (home_back-inside run c.args.home c.in-Some.to c.requires.sound c.requires.home goes) (relative c.args.tree.now.value) c.requires.fits

pub returns-clause-inside : goal.returns-clause-inside
returns-clause-inside c =
    let run = c.args.run.now in
    let goes : home_back run c.args.home ≡ Some c.in-Some.to = sym c.home_back.ensures ∙ c.in-Some.is in
    home_back-inside run c.args.home c.in-Some.to c.requires.sound c.requires.home goes

pub returns-clause-tree : goal.returns-clause-tree
returns-clause-tree c =
    let run = c.args.run.now in
    let from = c.args.home in
    let to = c.in-Some.to in
    let old = relative c.args.tree.now.value in
    let new = relative c.in_ok-tree.tree.value in
    let some : run ≢ [] = not-empty run c.if-is_empty.ensures in
    let whole : take (length run) c.over.result.run.now ≡ run = ap (take (length run)) c.over.ensures ∙ take-whole run in
    let walked : new ≡ mapped (cell_walked Backward run from to) (area_walked Backward run from to) old =
    subst (λ r. new ≡ mapped (cell_walked Backward r from to) (area_walked Backward r from to) old) whole c.in_ok-tree.ensures.tree in
    walked-at_home Backward run from to old new some c.requires.sound c.requires.fits walked

pub returns-clause-fits : goal.returns-clause-fits
returns-clause-fits c =
    let run = c.args.run.now in
    let from = c.args.home in
    let to = c.in-Some.to in
    let old = relative c.args.tree.now.value in
    let new = relative c.in_ok-tree.tree.value in
    let some : run ≢ [] = not-empty run c.if-is_empty.ensures in
    let whole : take (length run) c.over.result.run.now ≡ run = ap (take (length run)) c.over.ensures ∙ take-whole run in
    let walked : new ≡ mapped (cell_walked Backward run from to) (area_walked Backward run from to) old =
    subst (λ r. new ≡ mapped (cell_walked Backward r from to) (area_walked Backward r from to) old) whole c.in_ok-tree.ensures.tree in
    walked-fits Backward run from to old new c.requires.sound c.requires.fits (walked-at_home Backward run from to old new some c.requires.sound c.requires.fits walked)
