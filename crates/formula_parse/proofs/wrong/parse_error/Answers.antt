use Rattle.std.proofs.Common.{◌≡◌, ◌∷◌, length, ap, subst, sym, refl, rules, arith, Some}
use Rattle.cell_addr.specs.Parts.{strip_prefix}
use Rattle.formula_parse.specs.Fronts.{IsFormula}
use Rattle.formula_parse.proofs.WrongTokens.{stripped, wrong-within, wrong-there}
use Rattle.formula_parse.proofs.wrong.parse_error.Goals as goal

pub returns-in_err-rest-clause-formula : goal.returns-in_err-rest-clause-formula
returns-in_err-rest-clause-formula c = λ _.
    let begins : Some c.in-Some.formula.now ≡ strip_prefix 61 c.args.text.now = search rules in
    let all : IsFormula (61 ∷ c.in-Some.formula.now) = search rules in
    subst IsFormula (sym (stripped c.args.text.now c.in-Some.formula.now begins)) all

pub overflow_sub-result : goal.overflow_sub-result
overflow_sub-result c =
    let within = wrong-within c.in_ok-rest.ensures.wrong in
    let more = ap length (stripped c.args.text.now c.in-Some.formula.now c.in-Some.ensures) in
    omega (arith, within, more)

pub overflow_sub-result-2 : goal.overflow_sub-result-2
overflow_sub-result-2 c = (wrong-within c.in_ok-rest.ensures.wrong).1

pub returns-clause-wrong : goal.returns-clause-wrong
returns-clause-wrong c =
    wrong-there c.args.text.now c.in-Some.formula.now c.in_ok-rest.rest.now c.in_ok-rest.behind.now _ c.in-Some.ensures c.in_ok-rest.ensures.wrong refl refl
