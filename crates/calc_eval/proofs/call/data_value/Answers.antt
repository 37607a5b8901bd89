use Rattle.std.proofs.Common.{◌≡◌, ◌∙◌, sym, subst, IfOk}
use Rattle.calc_terms.specs.Calls as calls
use Rattle.calc_terms.specs.References.{data_arguments}
use Rattle.calc_terms.specs.Words.{takes_block}
use Rattle.calc_eval.proofs.Data.{summary_data}
use Rattle.calc_eval.proofs.call.data_value.Goals as goal

pub returns-in-Math-clause-means : goal.returns-in-Math-clause-means
returns-in-Math-clause-means g c =
    let w = g.V.View.world c.args.view.now in
    let is = sym (summary_data w c.in-Math.f w.today c.args.args.now (sym c.is_of_summary.ensures ∙ c.if-is_of_summary.true)) in
    subst (λ f. IfOk c.summary_value.result (λ value. value ≡ calls.data_value f w.today (data_arguments w (takes_block f) 0 c.args.args.now))) (sym c.in-Math.is)
    (subst (λ v. IfOk c.summary_value.result (λ value. value ≡ v)) is c.summary_value.ensures.means)
