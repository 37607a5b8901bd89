use Rattle.std.proofs.Common.{refl}
use Rattle.std.proofs.lemmas.Result.{err_from_is_err_and}
use Rattle.kept_steps.specs.Turned.{is_listed, to_redo}
use Rattle.session_operations.proofs.Following.{follow_step, follow_touched, more_as}
use Rattle.session_operations.proofs.parts.Parts.cells_forth.Goals as goal

pub returns-in_err-touch_redone-clause-follow : goal.returns-in_err-touch_redone-clause-follow
returns-in_err-touch_redone-clause-follow c =
    follow_touched (is_listed (to_redo c.args.self.now.session)) c.args.self.now (record { session = c.args.self.now.session; values = c.touch_redone.new.values }) (λ i w h. h) c.touch_redone.ensures.touched refl

pub returns-clause-follow : goal.returns-clause-follow
returns-clause-follow c =
    follow_step c.redo.result (to_redo c.args.self.now.session) c.args.self.now (record { session = c.redo.new.self; values = c.touch_redone.new.values }) (more_as c.redo.ensures.words) c.touch_redone.ensures.touched c.in_ok-touch_redone.ensures.marked
    c.redo.ensures.others c.redo.ensures.err

pub returns-in_err-touch_redone-clause-marks : goal.returns-in_err-touch_redone-clause-marks
returns-in_err-touch_redone-clause-marks c = c.touch_redone.ensures.cells

pub returns-clause-marks : goal.returns-clause-marks
returns-clause-marks c = c.touch_redone.ensures.cells

pub returns-in_err-touch_redone-clause-line_err : goal.returns-in_err-touch_redone-clause-line_err
returns-in_err-touch_redone-clause-line_err c = rw (err_from_is_err_and c.from_residual.result c.from_residual.ensures.1).1 refl
