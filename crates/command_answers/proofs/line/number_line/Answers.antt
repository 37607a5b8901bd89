-- A number has at most ten digits, which stand in the line as they are.
use Rattle.std.proofs.Common.{◌≡◌, ◌∙◌, sym, ap, arith, [], ◌∷◌, ◌++◌, codes}
use Rattle.std.proofs.lemmas.Fmt.{length-decimal-le}
use Rattle.std.specs.Fmt.{decimal}
use Rattle.command_answers.proofs.LineBytes.{line_of_number}
use Rattle.command_answers.proofs.line.number_line.Goals as goal

pub put_number-requires : goal.put_number-requires
put_number-requires c =
    let few = length-decimal-le 10 c.args.number (omega arith) (omega (arith, c.ranges.number)) (omega (arith, c.ranges.number)) in
    omega (arith, few)

pub put-requires-2 : goal.put-requires-2
put-requires-2 c =
    let few = length-decimal-le 10 c.args.number (omega arith) (omega (arith, c.ranges.number)) (omega (arith, c.ranges.number)) in
    omega (arith, few)

pub returns : goal.returns
returns c =
    let ok : c.put.new.line.items ≡ codes "ok " = c.put.ensures.items ∙ ap (λ t. t ++ codes "ok ") c.requires.items in
    c.put-2.ensures.items
    ∙ ap (λ t. t ++ (10 ∷ [])) (c.put_number.ensures.items ∙ ap (λ t. t ++ decimal c.args.number) ok)
    ∙ sym (line_of_number c.args.number (omega (arith, c.ranges.number)))
