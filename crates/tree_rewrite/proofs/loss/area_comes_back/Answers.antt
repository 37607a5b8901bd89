use Rattle.std.proofs.Common.{◌≡◌, ◌∙◌, sym, ap, Some, None}
use Rattle.formula_tree.specs.Reference.{block_of}
use Rattle.tree_rewrite.specs.Rewritten.{area_after, area_before}
use Rattle.tree_rewrite.proofs.Returns.{area-lost, area-nowhere, area-at_ends, area-has_ends}
use Rattle.tree_rewrite.proofs.loss.area_comes_back.Goals as goal

pub returns-in_default : goal.returns-in_default
returns-in_default c =
    let lost : area_after c.args.s.now c.args.lines (block_of c.args.first c.args.last) ≡ None =
    ap (area_after c.args.s.now c.args.lines) (sym c.block_to.ensures) ∙ sym c.moved_area.ensures ∙ c.in_default.is in
    (λ h. absurd (cc), λ h. absurd (area-lost c.args.s.now c.args.lines c.args.first c.args.last lost h))

pub returns-in-Some-back_area : goal.returns-in-Some-back_area
returns-in-Some-back_area c =
    let s = c.args.s.now in
    let lines = c.args.lines in
    let goes : area_after s lines (block_of c.args.first c.args.last) ≡ Some c.in-Some.after = ap (area_after s lines) (sym c.block_to.ensures) ∙ sym c.moved_area.ensures ∙ c.in-Some.is in
    let came : area_before s lines c.in-Some.after ≡ Some c.in-Some-back_area.back = sym c.back_area.ensures ∙ c.in-Some-back_area.is in (
      λ h. area-at_ends s lines c.args.first c.args.last c.in-Some.after c.in-Some-back_area.back goes came (c.has_ends.ensures.0 h),
      λ h. c.has_ends.ensures.1 (area-has_ends s lines c.args.first c.args.last c.in-Some.after c.in-Some-back_area.back goes came h),
    )

pub returns-in-None : goal.returns-in-None
returns-in-None c =
    let s = c.args.s.now in
    let lines = c.args.lines in
    let goes : area_after s lines (block_of c.args.first c.args.last) ≡ Some c.in-Some.after = ap (area_after s lines) (sym c.block_to.ensures) ∙ sym c.moved_area.ensures ∙ c.in-Some.is in
    let came : area_before s lines c.in-Some.after ≡ None = sym c.back_area.ensures ∙ c.in-None.is in
    (λ h. absurd (cc), λ h. absurd (area-nowhere s lines c.args.first c.args.last c.in-Some.after goes came h))
