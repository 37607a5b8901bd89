use Rattle.std.proofs.Common.{◌≡◌, ◌∙◌, sym, ap, Some}
use Rattle.std.specs.List.{find}
use Rattle.cell_value.specs.Fault.{faults}
use Rattle.formula_tree.specs.Tokens.{begins_with_fault}
use Rattle.formula_parse.proofs.AsciiFronts.{ascii-fault}
use Rattle.formula_parse.proofs.lexer.fault_token.Goals as goal

pub split_front-requires : goal.split_front-requires
split_front-requires c =
    let found : find (begins_with_fault c.args.text.now) faults ≡ Some c.in_ok-fault.fault =
    sym (c.in_ok-fault.ensures ∙ ap (λ cs. find (begins_with_fault cs) faults) c.as_bytes.ensures.value) in
    rw c.text.ensures (ascii-fault c.args.text.now c.in_ok-fault.fault found)
