use Rattle.std.proofs.Common.{◌∙◌, sym}
use Rattle.std.proofs.lemmas.Result.{err_from_is_err_and}
use Rattle.book_model.specs.Operation as op
use Rattle.session_operations.specs.Seen.{state_of}
use Rattle.session_operations.proofs.Closed.{closed_at_undo}
use Rattle.session_operations.proofs.Turning.{done_sound, next_done}
use Rattle.session_operations.proofs.parts.Parts.undo.Goals as goal

pub step_back-requires-clause-closed : goal.step_back-requires-clause-closed
step_back-requires-clause-closed c = closed_at_undo c.args.self.now.session c.in_ok-check_undo.ensures

pub returns-clause-turns : goal.returns-clause-turns
returns-clause-turns c =
    let none = c.in_ok-check_undo.ensures in
    (none, tt, c.in_ok-step_back.ensures.ok ∙ sym (next_done op.undo (state_of c.args.self.now) none))

pub returns-clause-fits : goal.returns-clause-fits
returns-clause-fits c = done_sound op.undo (state_of c.args.self.now) _ c.in_ok-check_undo.ensures c.in_ok-step_back.ensures.ok c.requires

pub returns-clause-marks : goal.returns-clause-marks
returns-clause-marks c = c.in_ok-step_back.ensures.marks

pub returns-in_err-step_back-clause-marks : goal.returns-in_err-step_back-clause-marks
returns-in_err-step_back-clause-marks c = rw (err_from_is_err_and c.from_residual-in_err-step_back.result c.from_residual-in_err-step_back.ensures.1).1 tt

pub returns-in_err-step_back-clause-line_err : goal.returns-in_err-step_back-clause-line_err
returns-in_err-step_back-clause-line_err c = rw (err_from_is_err_and c.from_residual-in_err-step_back.result c.from_residual-in_err-step_back.ensures.1).1 c.in_err-step_back.ensures.line_err
