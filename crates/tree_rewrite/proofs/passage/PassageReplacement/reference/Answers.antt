use Rattle.std.proofs.Common.{◌≡◌, ◌∙◌, sym, ap, subst, Some, None}
use Rattle.cell_value.specs.declared.fault.FaultKind.TheVariants as faults
use Rattle.formula_tree.specs.Reference.{base_of, corner_at, ref_from}
use Rattle.formula_tree.specs.Relative.{relative}
use Rattle.formula_tree.specs.Term.{cell}
use Rattle.tree_rewrite.specs.Replaced.{Becomes}
use Rattle.tree_rewrite.specs.internal.Passage.{place_in}
use Rattle.tree_rewrite.proofs.Passing as passing
use Rattle.tree_rewrite.proofs.Walking as walking
use Rattle.tree_rewrite.proofs.passage.PassageReplacement.reference.Goals as goal

pub returns-in_default : goal.returns-in_default
returns-in_default c =
    let p = c.args.self.now in
    let lost : place_in p.direction p.shift (corner_at (base_of p.from) c.args.reference).at ≡ None =
    sym (ap (λ k. place_in p.direction p.shift k.at) c.at-corner.ensures) ∙ sym c.place.ensures ∙ c.in_default.is in
    let is = passing.cell-lost p c.args.reference lost in
    (walking.relative-Fault faults.Ref ∙ sym is, λ q. walking.fault-other faults.Ref c.args.reference (sym is ∙ q))

pub of-new-requires-clause-corner : goal.of-new-requires-clause-corner
of-new-requires-clause-corner c =
    let p = c.args.self.now in
    let goes : place_in p.direction p.shift (corner_at (base_of p.from) c.args.reference).at ≡ Some c.in-Some.at =
    sym (ap (λ k. place_in p.direction p.shift k.at) c.at-corner.ensures) ∙ sym c.place.ensures ∙ c.in-Some.is in
    passing.cell-inside p c.args.reference c.in-Some.at c.requires.0 c.requires.2 goes

pub returns : goal.returns
returns c =
    let p = c.args.self.now in
    let goes : place_in p.direction p.shift (corner_at (base_of p.from) c.args.reference).at ≡ Some c.in-Some.at =
    sym (ap (λ k. place_in p.direction p.shift k.at) c.at-corner.ensures) ∙ sym c.place.ensures ∙ c.in-Some.is in
    let new = c.of-new.ensures ∙ ap (λ k. ref_from (base_of p.to) (record k { at = c.in-Some.at })) c.at-corner.ensures in
    let is = passing.cell-goes p c.args.reference c.in-Some.at goes ∙ ap (λ r. cell r) (sym new) in
    subst (Becomes relative c.changed_cell.result (cell c.args.reference)) (sym is) c.changed_cell.ensures
