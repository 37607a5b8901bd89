use Rattle.std.proofs.Common.{◌≡◌, ◌∙◌, sym, ap, subst}
use Rattle.cell_value.specs.Summary.{alone, summary_of}
use Rattle.func_args.specs.Answers.{number_value}
use Rattle.func_args.specs.Lists.{listed}
use Rattle.calc_terms.specs.References.{argument_cells}
use Rattle.calc_eval.proofs.Data.{value_summary}
use Rattle.calc_eval.proofs.call.argument_summary.Goals as goal

pub returns-in-Value-clause-means : goal.returns-in-Value-clause-means
returns-in-Value-clause-means g c =
    subst (λ a. c.of.result ≡ summary_of (listed (argument_cells (g.V.View.world c.args.view.now) a))) (sym c.in-Value.is)
    (value_summary (g.V.View.world c.args.view.now) c.in-Value.value c.of.result
    (c.of.ensures.alone ∙ ap alone (c.number_value.ensures ∙ ap number_value c.as_number.ensures)))
