use Rattle.std.proofs.Common.{◌∙◌, sym, ap, Some}
use Rattle.formula_tree.specs.Run.{begins_run, begins_with_any}
use Rattle.formula_parse.proofs.Streams.{front_of-run}
use Rattle.formula_parse.proofs.lexer.front.Goals as goal

pub returns-then-begins_with_run : goal.returns-then-begins_with_run
returns-then-begins_with_run c =
    let begins = ap (begins_with_any begins_run) (sym c.as_bytes-bytes.ensures.value) ∙ sym c.begins_with_run.ensures ∙ c.if-begins_with_run.true in
    let run = front_of-run c.args.text.now _ _ begins c.split_run.ensures.run c.split_run.ensures.rest in
    rw run (ap (λ p. Some p) c.run_token.ensures)
