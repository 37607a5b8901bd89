use Rattle.std.proofs.Common.{◌∙◌, ap, subst, inr, ◌+◌, ◌≤◌, w32}
use Rattle.std.proofs.lemmas.Int.{to_z-of_z}
use Rattle.std.proofs.lemmas.Result.{IfOk-weaker}
use Rattle.cell_value.specs.declared.scalar.Scalar.{Scalar}
use Rattle.formula_tree.specs.Links.{names_in}
use Rattle.formula_tree.specs.Reference.{sheet_of}
use Rattle.formula_tree.specs.Relative.{relative}
use Rattle.formula_tree.specs.StandsFor.{at_home}
use Rattle.formula_tree.specs.Term.{Term}
use Rattle.formula_tree.specs.declared.reference.Corner.{Corner}
use Rattle.calc_terms.specs.Cost.{cost}
use Rattle.calc_terms.specs.Meaning.{meaning}
use Rattle.calc_terms.specs.World.{World}
use Rattle.range_table.specs.Ranges.{table_of}
use Rattle.range_table.specs.Table.{AreFolds}
use Rattle.recalc_core.specs.Recalc.{kept_in}
use Rattle.recalc_core.specs.internal.KeptValues.{kept_by}
use Rattle.recalc_core.specs.internal.Seen.{AreRead, world_in}
use Rattle.recalc_core.specs.internal.UnderWay.{IsMeaning}
use Rattle.recalc_core.proofs.Worked.{same_world}
use Rattle.recalc_core.proofs.recalc.Recalc.formula_value.Goals as goal

pub invariant_of-self : goal.invariant_of-self
invariant_of-self g c = record {
  right = subst (λ (w : World). AreFolds w.shown (table_of c.into_ranges.result).kept)
      (c.eval-value.ensures.leaves ∙ same_world c.new-seen.result.shown.kept.now c.args.self.now.kept c.new-seen.result.names.now c.new-seen.result.day c.new-seen.ensures.kept)
      c.into_ranges.ensures;
}

pub returns-clause-means : goal.returns-clause-means
returns-clause-means g c =
    let b = g.T.Trees.workbook c.args.trees.now in
    let words = g.T.Trees.words c.args.trees.now in
    let customs = g.C.Customs.customs c.args.customs.now in
    let t : Term Corner = at_home c.args.home (relative c.args.tree.now.value) in
    let names = c.in_ok-names.names.items in
    let kept = kept_in c.args.self.now in
    IfOk-weaker c.eval-value.result _ (IsMeaning b words customs c.args.day kept c.args.home t)
    (λ (value : Scalar) shows. (
      names,
      subst (λ sheet. AreRead b words sheet (names_in t) names) c.sheet.ensures (c.in_ok-names.ensures.read c.args.home),
      shows ∙ ap (λ (w : World). meaning w customs c.args.home t)
          ((λ i. world_in (kept_by (c.new-seen.ensures.kept i)) ((c.new-seen.ensures.names ∙ c.deref.ensures.value) i) (c.new-seen.ensures.day i))
          ∙ ap (world_in kept names) (to_z-of_z w32 c.args.day c.ranges.day)),
    ))
    c.eval-value.ensures.means

pub returns-clause-most : goal.returns-clause-most
returns-clause-most g c =
    let b = g.T.Trees.workbook c.args.trees.now in
    let words = g.T.Trees.words c.args.trees.now in
    let t : Term Corner = at_home c.args.home (relative c.args.tree.now.value) in
    let names = c.in_ok-names.names.items in
    let kept = kept_in c.args.self.now in
    let sheet = sheet_of c.args.home in
    inr (
      names,
      subst (λ s. AreRead b words s (names_in t) names) c.sheet.ensures (c.in_ok-names.ensures.read c.args.home),
      subst (λ (w : World). c.eval-value.new.steps ≤ c.args.steps.now + cost w sheet t)
          ((λ i. world_in (kept_by (c.new-seen.ensures.kept i)) ((c.new-seen.ensures.names ∙ c.deref.ensures.value) i) (c.new-seen.ensures.day i))
          ∙ ap (world_in kept names) (to_z-of_z w32 c.args.day c.ranges.day))
          c.eval-value.ensures.most,
    )
