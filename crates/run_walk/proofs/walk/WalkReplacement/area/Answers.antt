use Rattle.std.proofs.Common.{◌≡◌, ◌∙◌, sym, ap, subst, take, Some, None}
use Rattle.cell_addr.specs.Place.{IsInside}
use Rattle.cell_value.specs.declared.fault.FaultKind.TheVariants as faults
use Rattle.formula_tree.specs.Reference.{base_of, block_of, corner_at, ref_from}
use Rattle.formula_tree.specs.Relative.{relative}
use Rattle.formula_tree.specs.Term.{shaped}
use Rattle.shift_core.specs.Carried.{first_place, last_place}
use Rattle.tree_rewrite.proofs.Passing.{corners-block, ref-at, same-area}
use Rattle.tree_rewrite.proofs.Walking as walking
use Rattle.tree_rewrite.specs.Replaced.{Becomes}
use Rattle.tree_rewrite.specs.Shaped.{AreShaped}
use Rattle.run_walk.specs.internal.Walked.{area_along}
use Rattle.run_walk.proofs.Over.{sound-take}
use Rattle.run_walk.proofs.Walking.{area-goes, area-lost, area-shaped, corners-inside}
use Rattle.run_walk.proofs.walk.WalkReplacement.area.Goals as goal

pub returns-in_default : goal.returns-in_default
returns-in_default g c =
    let w = c.args.self.now in
    let run = take w.count (g.W.Way.shifts w.way.now) in
    let top = corner_at (base_of w.from) c.args.first in
    let bottom = corner_at (base_of w.from) c.args.last in
    let between = corners-block c.at-top.result c.at-bottom.result top bottom c.block_to-block.result c.at-top.ensures c.at-bottom.ensures c.block_to-block.ensures in
    let lost : area_along w.direction run c.args.lines (block_of top bottom) ≡ None = ap (area_along w.direction run c.args.lines) (sym between) ∙ sym c.area_along.ensures ∙ c.in_default.is in
    let is = area-lost w.direction run w.from w.to c.args.lines c.args.first c.args.last lost in
    (walking.relative-Fault faults.Ref ∙ sym is, λ q. walking.fault-no_area faults.Ref c.args.lines c.args.first c.args.last (sym is ∙ q))

pub of-new_first-requires-clause-corner : goal.of-new_first-requires-clause-corner
of-new_first-requires-clause-corner g c =
    let w = c.args.self.now in
    let run = take w.count (g.W.Way.shifts w.way.now) in
    let sound = sound-take w.count (g.W.Way.shifts w.way.now) c.requires.takes.0 in
    let top = corner_at (base_of w.from) c.args.first in
    let bottom = corner_at (base_of w.from) c.args.last in
    let between = corners-block c.at-top.result c.at-bottom.result top bottom c.block_to-block.result c.at-top.ensures c.at-bottom.ensures c.block_to-block.ensures in
    let goes : area_along w.direction run c.args.lines (block_of top bottom) ≡ Some c.in-Some.block = ap (area_along w.direction run c.args.lines) (sym between) ∙ sym c.area_along.ensures ∙ c.in-Some.is in
    subst IsInside (sym c.first_place.ensures) (corners-inside w.direction run c.args.lines (block_of top bottom) c.in-Some.block sound c.requires.takes.3 goes).0

pub of-new_last-requires-clause-corner : goal.of-new_last-requires-clause-corner
of-new_last-requires-clause-corner g c =
    let w = c.args.self.now in
    let run = take w.count (g.W.Way.shifts w.way.now) in
    let sound = sound-take w.count (g.W.Way.shifts w.way.now) c.requires.takes.0 in
    let top = corner_at (base_of w.from) c.args.first in
    let bottom = corner_at (base_of w.from) c.args.last in
    let between = corners-block c.at-top.result c.at-bottom.result top bottom c.block_to-block.result c.at-top.ensures c.at-bottom.ensures c.block_to-block.ensures in
    let goes : area_along w.direction run c.args.lines (block_of top bottom) ≡ Some c.in-Some.block = ap (area_along w.direction run c.args.lines) (sym between) ∙ sym c.area_along.ensures ∙ c.in-Some.is in
    subst IsInside (sym c.last_place.ensures) (corners-inside w.direction run c.args.lines (block_of top bottom) c.in-Some.block sound c.requires.takes.3 goes).1

pub changed_area-requires : goal.changed_area-requires
changed_area-requires g c =
    let w = c.args.self.now in
    let run = take w.count (g.W.Way.shifts w.way.now) in
    let sound = sound-take w.count (g.W.Way.shifts w.way.now) c.requires.takes.0 in
    let top = corner_at (base_of w.from) c.args.first in
    let bottom = corner_at (base_of w.from) c.args.last in
    let between = corners-block c.at-top.result c.at-bottom.result top bottom c.block_to-block.result c.at-top.ensures c.at-bottom.ensures c.block_to-block.ensures in
    let goes : area_along w.direction run c.args.lines (block_of top bottom) ≡ Some c.in-Some.block = ap (area_along w.direction run c.args.lines) (sym between) ∙ sym c.area_along.ensures ∙ c.in-Some.is in
    let first = ref-at w.to c.at-top.result top c.first_place.result (first_place c.in-Some.block) c.of-new_first.result c.at-top.ensures c.first_place.ensures c.of-new_first.ensures in
    let last = ref-at w.to c.at-bottom.result bottom c.last_place.result (last_place c.in-Some.block) c.of-new_last.result c.at-bottom.ensures c.last_place.ensures c.of-new_last.ensures in
    let shape = area-shaped w.direction run w.from w.to c.args.lines c.args.first c.args.last c.in-Some.block sound c.requires.shape goes in
    subst (λ x. AreShaped c.args.lines x c.of-new_last.result) (sym first)
    (subst (λ x. AreShaped c.args.lines (ref_from (base_of w.to) (record top { at = first_place c.in-Some.block })) x) (sym last) shape)

pub returns : goal.returns
returns g c =
    let w = c.args.self.now in
    let run = take w.count (g.W.Way.shifts w.way.now) in
    let top = corner_at (base_of w.from) c.args.first in
    let bottom = corner_at (base_of w.from) c.args.last in
    let between = corners-block c.at-top.result c.at-bottom.result top bottom c.block_to-block.result c.at-top.ensures c.at-bottom.ensures c.block_to-block.ensures in
    let goes : area_along w.direction run c.args.lines (block_of top bottom) ≡ Some c.in-Some.block = ap (area_along w.direction run c.args.lines) (sym between) ∙ sym c.area_along.ensures ∙ c.in-Some.is in
    let first = ref-at w.to c.at-top.result top c.first_place.result (first_place c.in-Some.block) c.of-new_first.result c.at-top.ensures c.first_place.ensures c.of-new_first.ensures in
    let last = ref-at w.to c.at-bottom.result bottom c.last_place.result (last_place c.in-Some.block) c.of-new_last.result c.at-bottom.ensures c.last_place.ensures c.of-new_last.ensures in
    let is = area-goes w.direction run w.from w.to c.args.lines c.args.first c.args.last c.in-Some.block goes ∙ same-area c.args.lines _ _ _ _ (sym first) (sym last) in
    subst (Becomes relative c.changed_area.result (shaped c.args.lines c.args.first c.args.last)) (sym is) c.changed_area.ensures
