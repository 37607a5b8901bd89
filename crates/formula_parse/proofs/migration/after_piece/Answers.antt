-- A fault that is written out is a piece.
use Rattle.std.proofs.Common.{sym, ◌∙◌, ap}
use Rattle.formula_tree.specs.Run.{begins_with}
use Rattle.formula_parse.specs.internal.Front.{token_of}
use Rattle.formula_parse.proofs.Pieces.{fault-piece}
use Rattle.formula_parse.proofs.migration.after_piece.Goals as goal

pub returns-in_ok-fault_token : goal.returns-in_ok-fault_token
returns-in_ok-fault_token c =
    fault-piece c.args.text.now (token_of c.in_ok-fault_token.field-0.0) c.in_ok-fault_token.field-0.1.now (ap (begins_with 35) (sym c.as_bytes-bytes.ensures.value) ∙ sym c.if-begins_with-4.ensures) c.in_ok-fault_token.ensures
