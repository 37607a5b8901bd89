use Rattle.std.proofs.Common.{◌∙◌, sym, arith}
use Rattle.std.proofs.lemmas.Result.{err_from_is_err_and}
use Rattle.fix_num.proofs.Powers.{multiplied-more, multiplied-stops, multiplied-zero}
use Rattle.fix_num.proofs.number.Fixed.multiplied.Goals as goal

pub returns-in_err-power : goal.returns-in_err-power
returns-in_err-power c =
    let p = err_from_is_err_and c.from_residual.result c.from_residual.ensures.1 in
    rw (p.1, p.2)
    (sym (multiplied-stops c.products.power c.args.self _ c.args.times c.products.done c.products-test.true c.in_err-power.ensures) ∙ c.products.invariant)

pub products-preserved : goal.products-preserved
products-preserved c =
    sym (multiplied-more c.products.power c.args.self _ c.args.times c.products.done c.products-test.true c.in_ok-power.ensures) ∙ c.products.invariant

pub returns : goal.returns
returns c =
    sym (multiplied-zero c.products.power c.args.self c.args.times c.products.done (omega arith)) ∙ c.products.invariant
