use Rattle.std.proofs.Common.{◌≡◌, ◌∙◌, sym, subst, Some, None}
use Rattle.cell_addr.specs.Place.{IsInside}
use Rattle.cell_value.specs.declared.fault.FaultKind.TheVariants as faults
use Rattle.formula_tree.specs.Reference.{base_of, corner_at, block_of, ref_from}
use Rattle.formula_tree.specs.Relative.{relative}
use Rattle.formula_tree.specs.Term.{shaped}
use Rattle.shift_core.specs.Carried.{first_place, last_place}
use Rattle.tree_rewrite.specs.Replaced.{Becomes}
use Rattle.tree_rewrite.specs.Shaped.{AreShaped}
use Rattle.tree_rewrite.specs.internal.Passage.{IsFull, area_in}
use Rattle.tree_rewrite.proofs.Passing as passing
use Rattle.tree_rewrite.proofs.Walking as walking
use Rattle.tree_rewrite.proofs.WholeAreas.{area_in-full}
use Rattle.tree_rewrite.proofs.passage.PassageReplacement.area.Goals as goal

pub returns-in_default : goal.returns-in_default
returns-in_default c =
    let p = c.args.self.now in
    let top = corner_at (base_of p.from) c.args.first in
    let bottom = corner_at (base_of p.from) c.args.last in
    let lost : area_in p.direction p.shift c.args.lines (block_of top bottom) ≡ None =
    passing.block-passed p.direction p.shift c.args.lines c.block_to-block.result (block_of top bottom) _
    (passing.corners-block c.at-top.result c.at-bottom.result top bottom c.block_to-block.result c.at-top.ensures c.at-bottom.ensures c.block_to-block.ensures) (sym c.area.ensures ∙ c.in_default.is) in
    let is = passing.area-lost p c.args.lines c.args.first c.args.last lost in
    (walking.relative-Fault faults.Ref ∙ sym is, λ q. walking.fault-no_area faults.Ref c.args.lines c.args.first c.args.last (sym is ∙ q))

pub of-new_first-requires-clause-corner : goal.of-new_first-requires-clause-corner
of-new_first-requires-clause-corner c =
    let p = c.args.self.now in
    let top = corner_at (base_of p.from) c.args.first in
    let bottom = corner_at (base_of p.from) c.args.last in
    let goes : area_in p.direction p.shift c.args.lines (block_of top bottom) ≡ Some c.in-Some.block =
    passing.block-passed p.direction p.shift c.args.lines c.block_to-block.result (block_of top bottom) _
    (passing.corners-block c.at-top.result c.at-bottom.result top bottom c.block_to-block.result c.at-top.ensures c.at-bottom.ensures c.block_to-block.ensures) (sym c.area.ensures ∙ c.in-Some.is) in
    subst IsInside (sym c.first_place.ensures) (passing.area-inside p c.args.lines c.args.first c.args.last c.in-Some.block c.requires.takes.0 c.requires.takes.2 goes).0

pub of-new_last-requires-clause-corner : goal.of-new_last-requires-clause-corner
of-new_last-requires-clause-corner c =
    let p = c.args.self.now in
    let top = corner_at (base_of p.from) c.args.first in
    let bottom = corner_at (base_of p.from) c.args.last in
    let goes : area_in p.direction p.shift c.args.lines (block_of top bottom) ≡ Some c.in-Some.block =
    passing.block-passed p.direction p.shift c.args.lines c.block_to-block.result (block_of top bottom) _
    (passing.corners-block c.at-top.result c.at-bottom.result top bottom c.block_to-block.result c.at-top.ensures c.at-bottom.ensures c.block_to-block.ensures) (sym c.area.ensures ∙ c.in-Some.is) in
    subst IsInside (sym c.last_place.ensures) (passing.area-inside p c.args.lines c.args.first c.args.last c.in-Some.block c.requires.takes.0 c.requires.takes.2 goes).1

pub changed_area-requires : goal.changed_area-requires
changed_area-requires c =
    let p = c.args.self.now in
    let top = corner_at (base_of p.from) c.args.first in
    let bottom = corner_at (base_of p.from) c.args.last in
    let first = passing.ref-at p.to c.at-top.result top c.first_place.result (first_place c.in-Some.block) c.of-new_first.result c.at-top.ensures c.first_place.ensures c.of-new_first.ensures in
    let last = passing.ref-at p.to c.at-bottom.result bottom c.last_place.result (last_place c.in-Some.block) c.of-new_last.result c.at-bottom.ensures c.last_place.ensures c.of-new_last.ensures in
    let full = area_in-full p.direction p.shift c.args.lines c.block_to-block.result c.in-Some.block (sym c.area.ensures ∙ c.in-Some.is) in
    let shape = passing.shaped-at c.args.lines c.args.first c.args.last (base_of p.from) (base_of p.to) c.in-Some.block c.requires.shape full in
    subst (λ x. AreShaped c.args.lines x c.of-new_last.result) (sym first)
    (subst (λ x. AreShaped c.args.lines (ref_from (base_of p.to) (record top { at = first_place c.in-Some.block })) x) (sym last) shape)

pub returns : goal.returns
returns c =
    let p = c.args.self.now in
    let top = corner_at (base_of p.from) c.args.first in
    let bottom = corner_at (base_of p.from) c.args.last in
    let first = passing.ref-at p.to c.at-top.result top c.first_place.result (first_place c.in-Some.block) c.of-new_first.result c.at-top.ensures c.first_place.ensures c.of-new_first.ensures in
    let last = passing.ref-at p.to c.at-bottom.result bottom c.last_place.result (last_place c.in-Some.block) c.of-new_last.result c.at-bottom.ensures c.last_place.ensures c.of-new_last.ensures in
    let goes : area_in p.direction p.shift c.args.lines (block_of top bottom) ≡ Some c.in-Some.block =
    passing.block-passed p.direction p.shift c.args.lines c.block_to-block.result (block_of top bottom) _
    (passing.corners-block c.at-top.result c.at-bottom.result top bottom c.block_to-block.result c.at-top.ensures c.at-bottom.ensures c.block_to-block.ensures) (sym c.area.ensures ∙ c.in-Some.is) in
    let is = passing.area-goes p c.args.lines c.args.first c.args.last c.in-Some.block goes ∙ passing.same-area c.args.lines _ _ _ _ (sym first) (sym last) in
    subst (Becomes relative c.changed_area.result (shaped c.args.lines c.args.first c.args.last)) (sym is) c.changed_area.ensures
