use Rattle.std.proofs.Common.{◌∙◌, sym}
use Rattle.std.proofs.lemmas.Result.{err_from_is_err_and}
use Rattle.book_model.specs.Operation as op
use Rattle.session_operations.specs.Seen.{state_of}
use Rattle.session_operations.proofs.Closed.{closed_at_redo}
use Rattle.session_operations.proofs.Turning.{done_sound, next_done}
use Rattle.session_operations.proofs.parts.Parts.redo.Goals as goal

pub step_forth-requires-clause-closed : goal.step_forth-requires-clause-closed
step_forth-requires-clause-closed c = closed_at_redo c.args.self.now.session c.in_ok-check_redo.ensures

pub returns-clause-turns : goal.returns-clause-turns
returns-clause-turns c =
    let none = c.in_ok-check_redo.ensures in
    (none, tt, c.in_ok-step_forth.ensures.ok ∙ sym (next_done op.redo (state_of c.args.self.now) none))

pub returns-clause-fits : goal.returns-clause-fits
returns-clause-fits c = done_sound op.redo (state_of c.args.self.now) _ c.in_ok-check_redo.ensures c.in_ok-step_forth.ensures.ok c.requires

pub returns-clause-marks : goal.returns-clause-marks
returns-clause-marks c = c.in_ok-step_forth.ensures.marks

pub returns-in_err-step_forth-clause-marks : goal.returns-in_err-step_forth-clause-marks
returns-in_err-step_forth-clause-marks c = rw (err_from_is_err_and c.from_residual-in_err-step_forth.result c.from_residual-in_err-step_forth.ensures.1).1 tt

pub returns-in_err-step_forth-clause-line_err : goal.returns-in_err-step_forth-clause-line_err
returns-in_err-step_forth-clause-line_err c = rw (err_from_is_err_and c.from_residual-in_err-step_forth.result c.from_residual-in_err-step_forth.ensures.1).1 c.in_err-step_forth.ensures.line_err
