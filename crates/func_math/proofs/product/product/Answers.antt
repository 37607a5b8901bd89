use Rattle.std.proofs.Common.{◌∙◌, ap, sym, arith, ◌+◌, Ok, pos, unwrap_or, drop}
use Rattle.std.specs.List.{flat_map}
use Rattle.std.proofs.lemmas.List.{drop_all}
use Rattle.func_args.specs.Answers.{and_then}
use Rattle.func_args.specs.Lists.{listed}
use Rattle.func_math.specs.internal.Factors.{with_factors}
use Rattle.func_math.proofs.Factors.{factors_more, product_value-some}
use Rattle.func_math.proofs.product.product.Goals as goal

pub arguments-preserved : goal.arguments-preserved
arguments-preserved c =
    let more = factors_more c.args.args.now c.arguments.argument-index c.argument-item.result c.arguments.product c.with_argument.result (omega arith) c.argument-item.is c.with_argument.ensures in
    sym (ap (λ r. and_then r (λ q. with_factors q (flat_map listed (drop (c.arguments.argument-index + 1) c.args.args.now)))) c.in-Ok.is) ∙ sym more ∙ c.arguments.invariant

pub returns-in-Err : goal.returns-in-Err
returns-in-Err c =
    let more = factors_more c.args.args.now c.arguments.argument-index c.argument-item.result c.arguments.product c.with_argument.result (omega arith) c.argument-item.is c.with_argument.ensures in
    let all = sym c.arguments.invariant ∙ more ∙ ap (λ r. and_then r (λ q. with_factors q (flat_map listed (drop (c.arguments.argument-index + 1) c.args.args.now)))) c.in-Err.is in
    sym (product_value-some c.args.args.now (sym c.is_empty.ensures ∙ c.if-is_empty.false) ∙ ap (λ r. and_then r (λ p. unwrap_or p (Ok (pos 0)))) all)

pub returns : goal.returns
returns c =
    let none = drop_all c.arguments.argument-index c.args.args.now (omega arith) in
    let all = sym (ap (λ xs. with_factors c.arguments.product (flat_map listed xs)) none) ∙ c.arguments.invariant in
    c.unwrap_or.ensures
    ∙ sym (product_value-some c.args.args.now (sym c.is_empty.ensures ∙ c.if-is_empty.false) ∙ ap (λ r. and_then r (λ p. unwrap_or p (Ok (pos 0)))) (sym all))
