use Rattle.std.proofs.Common.{subst}
use Rattle.std.proofs.lemmas.Result.{IfOk-weaker}
use Rattle.shift_core.specs.Lines.{line_before}
use Rattle.stable_lines.specs.Lines.{AreRenewed}
use Rattle.stable_lines.specs.internal.Turned.{IsTurned}
use Rattle.stable_lines.specs.internal.Turns.{turn_of_edit}
use Rattle.stable_lines.proofs.EditTurns.{edit_agrees, edit_is_turn, renewed}
use Rattle.stable_lines.proofs.table.LineTable.edited.Goals as goal

pub returns : goal.returns
returns c =
    let t = c.args.self.now in
    let turn = edit_is_turn t.limit c.args.edit c.requires t.narrow in
    IfOk-weaker c.turned.result (IsTurned c.of.result t) (AreRenewed (line_before t.limit c.args.edit) t) (λ new h. renewed t new (turn_of_edit t.limit c.args.edit) (line_before t.limit c.args.edit) turn.0 turn.1 (λ q lt. edit_agrees t.limit c.args.edit q c.requires lt) (subst (λ x. IsTurned x t new) c.of.ensures h)) c.turned.ensures
