use Rattle.std.proofs.Common.{subst, w32, ℤ}
use Rattle.std.proofs.lemmas.Int.{to_z-of_z}
use Rattle.std.proofs.lemmas.Result.{IfOk-weaker}
use Rattle.cell_value.specs.declared.scalar.Scalar.{Scalar}
use Rattle.formula_tree.specs.Relative.{relative}
use Rattle.formula_tree.specs.StandsFor.{at_home}
use Rattle.recalc_core.specs.Recalc.{kept_in}
use Rattle.recalc_core.specs.internal.UnderWay.{IsMeaning, IsWithinCost}
use Rattle.recalc_core.proofs.Worked.{meaning_right, right_within}
use Rattle.recalc_core.proofs.recalc.Recalc.tried.Goals as goal

pub returns-clause-means : goal.returns-clause-means
returns-clause-means g c =
    let b = g.T.Trees.workbook c.args.trees.now in
    let words = g.T.Trees.words c.args.trees.now in
    let customs = g.C.Customs.customs c.args.customs.now in
    let kept = kept_in c.args.self.now in
    let home = c.args.home in
    let t = at_home home (relative c.args.tree.now.value) in
    IfOk-weaker c.formula_value.result _ _
    (λ (value : Scalar) means. meaning_right b customs c.args.day words kept home t value c.requires.right
    (subst (λ (d : ℤ). IsMeaning b words customs d kept home t value) (to_z-of_z w32 c.args.day c.ranges.day) means))
    c.formula_value.ensures.means

pub returns-clause-most : goal.returns-clause-most
returns-clause-most g c =
    let b = g.T.Trees.workbook c.args.trees.now in
    let words = g.T.Trees.words c.args.trees.now in
    let customs = g.C.Customs.customs c.args.customs.now in
    let kept = kept_in c.args.self.now in
    let home = c.args.home in
    let t = at_home home (relative c.args.tree.now.value) in
    right_within b customs c.args.day words kept home t c.args.steps.now c.formula_value.new.steps c.requires.right
    (subst (λ (d : ℤ). IsWithinCost b words d kept home t c.args.steps.now c.formula_value.new.steps) (to_z-of_z w32 c.args.day c.ranges.day) c.formula_value.ensures.most)
