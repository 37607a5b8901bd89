use Rattle.std.proofs.Common.{◌∙◌, ap, subst, Some, to_z, of_z, w32}
use Rattle.std.proofs.lemmas.Int.{to_z-of_z}
use Rattle.formula_tree.specs.Relative.{relative}
use Rattle.formula_tree.specs.StandsFor.{at_home}
use Rattle.recalc_core.specs.Kept.{Kept}
use Rattle.recalc_core.specs.Recalc.{kept_in}
use Rattle.recalc_core.specs.internal.UnderWay.{IsMeaning, IsWithinCost}
use Rattle.recalc_core.proofs.Touched.{either_differs}
use Rattle.recalc_core.proofs.UnderWay.{formula_right, formula_within, nothing_right, value_right}
use Rattle.recalc_core.proofs.recalc.Recalc.renew.Goals as goal

pub returns-in_err-value-in-Formula-clause-others : goal.returns-in_err-value-in-Formula-clause-others
returns-in_err-value-in-Formula-clause-others g c = λ x apart. ap (λ (k : Kept). k x) c.formula_value.ensures.kept

pub returns-in-Nothing-clause-right : goal.returns-in-Nothing-clause-right
returns-in-Nothing-clause-right g c =
    nothing_right (g.T.Trees.workbook c.args.trees.now) (g.T.Trees.words c.args.trees.now) (g.C.Customs.customs c.args.customs.now) c.args.day c.args.a c.in_ok-given.field-0
    (kept_in c.args.self.now) (kept_in c.settle.new.self) c.settle.result c.in_ok-given.ensures.given c.in-Nothing.is c.settle.ensures.ok

pub returns-in-Value-clause-right : goal.returns-in-Value-clause-right
returns-in-Value-clause-right g c =
    value_right (g.T.Trees.workbook c.args.trees.now) (g.T.Trees.words c.args.trees.now) (g.C.Customs.customs c.args.customs.now) c.args.day c.args.a c.in-Value.value c.in_ok-given.field-0
    (kept_in c.args.self.now) (kept_in c.settle-in-Value.new.self) c.settle-in-Value.result c.in_ok-given.ensures.given c.in-Value.is c.settle-in-Value.ensures.ok

pub returns-in_ok-value-in-Formula-clause-right : goal.returns-in_ok-value-in-Formula-clause-right
returns-in_ok-value-in-Formula-clause-right g c =
    let b = g.T.Trees.workbook c.args.trees.now in
    let words = g.T.Trees.words c.args.trees.now in
    let customs = g.C.Customs.customs c.args.customs.now in
    let kept = kept_in c.args.self.now in
    let home = c.in-Formula.home in
    let t = at_home home (relative c.in-Formula.tree.value) in
    let value = c.in_ok-value-in-Formula.value in
    let today = to_z w32 (of_z w32 c.args.day) in
    formula_right b words customs c.args.day c.args.a c.in-Formula.tree home value c.in_ok-given.field-0 kept (kept_in c.formula_value.new.self) (kept_in c.settle-in-Formula.new.self) c.settle-in-Formula.result
    c.requires c.in_ok-given.ensures.given c.in-Formula.is
    (subst (λ d. IsMeaning b words customs d kept home t value) (to_z-of_z w32 c.args.day c.ranges.day)
    (subst (λ w. IsMeaning w words customs today kept home t value) c.given.ensures.leaves
    (subst (λ ws. IsMeaning (g.T.Trees.workbook c.given.new.self) ws customs today kept home t value) c.given.ensures.words c.in_ok-value-in-Formula.ensures.means)))
    c.settle-in-Formula.ensures.ok

pub returns-in_ok-value-in-Formula-clause-others : goal.returns-in_ok-value-in-Formula-clause-others
returns-in_ok-value-in-Formula-clause-others g c = λ x apart.
    either_differs c.args.a (Some c.in_ok-value-in-Formula.value) (kept_in c.formula_value.new.self) (kept_in c.settle-in-Formula.new.self) c.settle-in-Formula.result c.settle-in-Formula.ensures.ok c.settle-in-Formula.ensures.err x apart
    ∙ ap (λ (k : Kept). k x) c.formula_value.ensures.kept

pub returns-in_err-value-in-Formula-clause-most : goal.returns-in_err-value-in-Formula-clause-most
returns-in_err-value-in-Formula-clause-most g c =
    let b = g.T.Trees.workbook c.args.trees.now in
    let words = g.T.Trees.words c.args.trees.now in
    let customs = g.C.Customs.customs c.args.customs.now in
    let kept = kept_in c.args.self.now in
    let home = c.in-Formula.home in
    let t = at_home home (relative c.in-Formula.tree.value) in
    let today = to_z w32 (of_z w32 c.args.day) in
    formula_within b words customs c.args.day c.args.a c.in-Formula.tree home c.in_ok-given.field-0 kept c.args.steps.now c.formula_value.new.steps c.requires c.in_ok-given.ensures.given c.in-Formula.is
    (subst (λ d. IsWithinCost b words d kept home t c.args.steps.now c.formula_value.new.steps) (to_z-of_z w32 c.args.day c.ranges.day)
    (subst (λ w. IsWithinCost w words today kept home t c.args.steps.now c.formula_value.new.steps) c.given.ensures.leaves
    (subst (λ ws. IsWithinCost (g.T.Trees.workbook c.given.new.self) ws today kept home t c.args.steps.now c.formula_value.new.steps) c.given.ensures.words c.formula_value.ensures.most)))

pub returns-in_ok-value-in-Formula-clause-most : goal.returns-in_ok-value-in-Formula-clause-most
returns-in_ok-value-in-Formula-clause-most g c =
    let b = g.T.Trees.workbook c.args.trees.now in
    let words = g.T.Trees.words c.args.trees.now in
    let customs = g.C.Customs.customs c.args.customs.now in
    let kept = kept_in c.args.self.now in
    let home = c.in-Formula.home in
    let t = at_home home (relative c.in-Formula.tree.value) in
    let today = to_z w32 (of_z w32 c.args.day) in
    formula_within b words customs c.args.day c.args.a c.in-Formula.tree home c.in_ok-given.field-0 kept c.args.steps.now c.formula_value.new.steps c.requires c.in_ok-given.ensures.given c.in-Formula.is
    (subst (λ d. IsWithinCost b words d kept home t c.args.steps.now c.formula_value.new.steps) (to_z-of_z w32 c.args.day c.ranges.day)
    (subst (λ w. IsWithinCost w words today kept home t c.args.steps.now c.formula_value.new.steps) c.given.ensures.leaves
    (subst (λ ws. IsWithinCost (g.T.Trees.workbook c.given.new.self) ws today kept home t c.args.steps.now c.formula_value.new.steps) c.given.ensures.words c.formula_value.ensures.most)))
