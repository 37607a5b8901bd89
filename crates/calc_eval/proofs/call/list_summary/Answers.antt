use Rattle.std.proofs.Common.{◌∙◌, sym, ap, subst, refl, arith, ◌+◌, ◌≤◌, map, take}
use Rattle.std.specs.List.{flat_map}
use Rattle.cell_value.specs.Summary.{joined, summary_of}
use Rattle.func_args.specs.Lists.{listed}
use Rattle.func_args.proofs.Summaries.{summary_none}
use Rattle.calc_terms.specs.References.{argument_cells, argument_size}
use Rattle.calc_eval.proofs.Data.{next_sizes, next_summary}
use Rattle.calc_eval.proofs.call.list_summary.Goals as goal

pub arguments-init : goal.arguments-init
arguments-init g c = record { same = refl; total = c.new-total.ensures.none ∙ sym summary_none; bounded = c.new-total.ensures.bounded; least = omega arith; most = omega arith }

pub arguments-preserved : goal.arguments-preserved
arguments-preserved g c =
    let i = c.arguments.argument-index in
    let args = c.args.args.now in
    let inv = c.arguments.invariant in
    let w = g.V.View.world c.args.view.now in
    let size = next_sizes w args i c.argument-item.result (omega arith) c.argument-item.is in
    let most : c.argument_summary.new.steps ≤ c.arguments.steps + argument_size w c.argument-item.result =
    subst (λ u. c.argument_summary.new.steps ≤ c.arguments.steps + argument_size u c.argument-item.result) inv.same c.argument_summary.ensures.most in
    let least = c.argument_summary.ensures.least in
    let done = inv.most in
    let from = inv.least in
    record {
      same = c.argument_summary.ensures.leaves ∙ inv.same;
      total = c.in_ok-total.ensures.joined
          ∙ ap (λ s. joined s c.in_ok-next.next) inv.total
          ∙ ap (joined (summary_of (flat_map listed (map (argument_cells w) (take i args))))) (c.in_ok-next.ensures.means ∙ ap (λ u. summary_of (listed (argument_cells u c.argument-item.result))) inv.same)
          ∙ sym (next_summary w args i c.argument-item.result (omega arith) c.argument-item.is);
      bounded = c.in_ok-total.ensures.bounded;
      least = omega arith;
      most = omega arith;
    }
