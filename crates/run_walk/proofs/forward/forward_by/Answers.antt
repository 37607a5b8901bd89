use Rattle.std.proofs.Common.{◌≡◌, ◌≢◌, ◌∙◌, sym, arith, take, Some, []}
use Rattle.formula_tree.specs.Relative.{relative}
use Rattle.run_walk.specs.Run.{home_over}
use Rattle.run_walk.proofs.Over.{home_over-inside, some-taken, sound-take}
use Rattle.run_walk.proofs.Walking.{taken-each, walked-at_home, walked-fits}
use Rattle.tree_rewrite.specs.declared.direction.Direction.TheVariants.{Forward}
use Rattle.run_walk.proofs.forward.forward_by.Goals as goal

pub replaced-requires : goal.replaced-requires
replaced-requires g c =
    let all = g.W.Way.shifts c.args.way.now in
    let run = take c.args.count all in
    let goes : home_over run c.args.home ≡ Some c.in-Some.to = sym c.home_by.ensures ∙ c.in-Some.is in
    taken-each all c.args.count c.args.home c.in-Some.to c.requires.sound c.requires.within (home_over-inside run c.args.home c.in-Some.to (sound-take c.args.count all c.requires.sound) c.requires.home goes) (relative c.args.tree.now.value) c.requires.fits

pub returns-clause-inside : goal.returns-clause-inside
returns-clause-inside g c =
    let all = g.W.Way.shifts c.args.way.now in
    let run = take c.args.count all in
    let goes : home_over run c.args.home ≡ Some c.in-Some.to = sym c.home_by.ensures ∙ c.in-Some.is in
    home_over-inside run c.args.home c.in-Some.to (sound-take c.args.count all c.requires.sound) c.requires.home goes

pub returns-clause-tree : goal.returns-clause-tree
returns-clause-tree g c =
    let all = g.W.Way.shifts c.args.way.now in
    let run = take c.args.count all in
    let some : run ≢ [] = some-taken c.args.count all c.requires.within (omega arith) in
    walked-at_home Forward run c.args.home c.in-Some.to (relative c.args.tree.now.value) (relative c.in_ok-tree.tree.value) some (sound-take c.args.count all c.requires.sound) c.requires.fits c.in_ok-tree.ensures.tree

pub returns-clause-fits : goal.returns-clause-fits
returns-clause-fits g c =
    let all = g.W.Way.shifts c.args.way.now in
    let run = take c.args.count all in
    let some : run ≢ [] = some-taken c.args.count all c.requires.within (omega arith) in
    let sound = sound-take c.args.count all c.requires.sound in
    let stands = walked-at_home Forward run c.args.home c.in-Some.to (relative c.args.tree.now.value) (relative c.in_ok-tree.tree.value) some sound c.requires.fits c.in_ok-tree.ensures.tree in
    walked-fits Forward run c.args.home c.in-Some.to (relative c.args.tree.now.value) (relative c.in_ok-tree.tree.value) sound c.requires.fits stands
