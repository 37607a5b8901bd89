-- The last digit stands behind those of a tenth of the number.
use Rattle.std.proofs.Common.{◌∙◌, sym, ap, arith, ◌+◌, ◌/◌, ◌%◌, [], ◌∷◌, ◌++◌, length, append_assoc}
use Rattle.std.proofs.lemmas.Fmt.{decimal_digit, decimal_step}
use Rattle.std.specs.Fmt.{decimal}
use Rattle.command_answers.proofs.LineBytes.{one_digit_more}
use Rattle.command_answers.proofs.line.+put_number.Goals as goal

pub put-requires : goal.put-requires
put-requires t c =
    let one = ap length (decimal_digit c.args.number (omega arith)) in
    omega arith

pub put_number-requires : goal.put_number-requires
put_number-requires t c =
    let more = one_digit_more c.args.number (omega arith) (omega (arith, c.ranges.number)) in
    (omega arith, omega arith)

pub put-requires-else-number-lt10 : goal.put-requires-else-number-lt10
put-requires-else-number-lt10 t c =
    let more = one_digit_more c.args.number (omega arith) (omega (arith, c.ranges.number)) in
    omega arith

pub returns-then-number-lt10-clause-items : goal.returns-then-number-lt10-clause-items
returns-then-number-lt10-clause-items t c = c.put.ensures.items ∙ ap (λ ds. c.args.line.now.items ++ ds) (sym (decimal_digit c.args.number (omega arith)))

pub returns-then-number-lt10-clause-len : goal.returns-then-number-lt10-clause-len
returns-then-number-lt10-clause-len t c =
    let one = ap length (decimal_digit c.args.number (omega arith)) in
    omega arith

pub returns-else-number-lt10-clause-items : goal.returns-else-number-lt10-clause-items
returns-else-number-lt10-clause-items t c =
    let last = (48 + c.args.number % 10) ∷ [] in
    c.put-else-number-lt10.ensures.items
    ∙ ap (λ ds. ds ++ last) c.put_number.ensures.items
    ∙ append_assoc c.args.line.now.items (decimal (c.args.number / 10)) last
    ∙ ap (λ ds. c.args.line.now.items ++ ds) (sym (decimal_step c.args.number (omega arith) (omega (arith, c.ranges.number))))

pub returns-else-number-lt10-clause-len : goal.returns-else-number-lt10-clause-len
returns-else-number-lt10-clause-len t c =
    let more = one_digit_more c.args.number (omega arith) (omega (arith, c.ranges.number)) in
    omega arith
