use Rattle.std.proofs.Common.{◌≡◌, ◌∙◌, sym, ap, take, Some}
use Rattle.formula_tree.specs.Reference.{base_of, corner_at}
use Rattle.run_walk.specs.internal.Walked.{place_along}
use Rattle.run_walk.proofs.Over.{sound-take}
use Rattle.run_walk.proofs.Walking.{place_along-inside}
use Rattle.run_walk.proofs.walk.WalkReplacement.reference.Goals as goal

pub of-new-requires-clause-corner : goal.of-new-requires-clause-corner
of-new-requires-clause-corner g c =
    let w = c.args.self.now in
    let run = take w.count (g.W.Way.shifts w.way.now) in
    let sound = sound-take w.count (g.W.Way.shifts w.way.now) c.requires.0 in
    let corner = corner_at (base_of w.from) c.args.reference in
    let goes : place_along w.direction run corner.at ≡ Some c.in-Some.at = sym (ap (λ k. place_along w.direction run k.at) c.at-corner.ensures) ∙ sym c.place_along.ensures ∙ c.in-Some.is in
    place_along-inside w.direction run corner.at c.in-Some.at sound c.requires.3 goes
