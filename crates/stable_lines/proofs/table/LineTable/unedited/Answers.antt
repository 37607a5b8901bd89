use Rattle.std.proofs.Common.{subst}
use Rattle.std.proofs.lemmas.Result.{IfOk-weaker}
use Rattle.shift_core.specs.Lines.{line_after}
use Rattle.stable_lines.specs.Lines.{AreRenewed}
use Rattle.stable_lines.specs.internal.Turned.{IsTurned}
use Rattle.stable_lines.specs.internal.Turns.{turn_back}
use Rattle.stable_lines.proofs.EditTurns.{back_agrees, back_is_edit_turn, renewed}
use Rattle.stable_lines.proofs.table.LineTable.unedited.Goals as goal

pub returns : goal.returns
returns c =
    let t = c.args.self.now in
    let turn = back_is_edit_turn t.limit c.args.edit c.requires t.narrow in
    IfOk-weaker c.turned.result (IsTurned c.back_of.result t) (AreRenewed (line_after t.limit c.args.edit) t) (λ new h. renewed t new (turn_back t.limit c.args.edit) (line_after t.limit c.args.edit) turn.0 turn.1 (λ q lt. back_agrees t.limit c.args.edit q c.requires t.narrow lt) (subst (λ x. IsTurned x t new) c.back_of.ensures h)) c.turned.ensures
