use Rattle.std.proofs.Common.{◌∙◌, ap, ◌%◌, rules, arith}
use Rattle.block_slots.proofs.Cutting.{cut_none, cut_more, all_cut, few_cut}
use Rattle.block_slots.proofs.cut.segments.Goals as goal

pub cutting-init : goal.cutting-init
cutting-init c = cut_none c.args.lines _ (search rules)

pub overflow_add-level : goal.overflow_add-level
overflow_add-level c = omega (arith, c.cutting.invariant.low 64 (omega arith))

pub cutting-preserved : goal.cutting-preserved
cutting-preserved c =
    cut_more c.args.lines c.cutting.level _ c.cutting.rest _ c.in_ok-later.later _ c.in_ok-inner.inner c.cutting.invariant c.cutting-test.true
    c.in_ok-later.ensures.taken c.in_ok-inner.ensures.taken (ap (λ n. n % 2) c.in_ok-inner.ensures.start ∙ c.in_ok-later.ensures.even) c.in_ok-inner.ensures.even

pub returns-clause-exact : goal.returns-clause-exact
returns-clause-exact c = all_cut c.args.lines c.cutting.level _ c.cutting.rest c.cutting.invariant c.cutting-test.false

pub returns-clause-few : goal.returns-clause-few
returns-clause-few c = few_cut c.args.lines c.cutting.level _ c.cutting.rest c.cutting.invariant
