use Rattle.std.proofs.Common.{◌∙◌, ap, sym, arith, take}
use Rattle.std.specs.List.{flat_map}
use Rattle.cell_value.specs.declared.argument.Arg.{Arg}
use Rattle.cell_value.specs.Summary.{joined, summary_of}
use Rattle.func_args.specs.Lists.{listed}
use Rattle.func_args.proofs.Summaries.{summary_none, arguments_more}
use Rattle.func_args.proofs.list.list_summary.Goals as goal

pub arguments-init : goal.arguments-init
arguments-init c = record { total = c.new-total.ensures.none ∙ sym summary_none; bounded = c.new-total.ensures.bounded }

pub arguments-preserved : goal.arguments-preserved
arguments-preserved c =
    let args = c.args.args.now in
    let item = ap (λ (a : Arg). summary_of (listed a)) c.argument-item.is in
    let more = arguments_more args c.arguments.argument-index c.argument-item.result (omega arith) in
    record {
      total = c.in_ok-total.ensures.joined
          ∙ ap (λ s. joined s c.in_ok-argument_summary.field-0) c.arguments.invariant.total
          ∙ ap (joined (summary_of (flat_map listed (take c.arguments.argument-index args)))) (c.in_ok-argument_summary.ensures.summary ∙ item)
          ∙ sym more;
      bounded = c.in_ok-total.ensures.bounded;
    }
