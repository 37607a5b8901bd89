use Rattle.std.proofs.Common.{◌∙◌, ap, sym, [], ◌∷◌}
use Rattle.cell_value.specs.Summary.{summary_of}
use Rattle.func_args.specs.Lists.{listed}
use Rattle.func_args.specs.Answers.{number_value}
use Rattle.func_args.proofs.Summaries.{summary_one}
use Rattle.func_args.proofs.list.argument_summary.Goals as goal

pub returns-in-One-clause-summary : goal.returns-in-One-clause-summary
returns-in-One-clause-summary c =
    c.of.ensures.alone ∙ sym (summary_one c.number_value.result)
    ∙ ap (λ x. summary_of (x ∷ [])) (c.number_value.ensures ∙ ap number_value c.as_number.ensures) ∙ ap (λ a. summary_of (listed a)) (sym c.in-One.is)
