use Rattle.std.proofs.Common.{refl}
use Rattle.std.proofs.lemmas.Result.{err_from_is_err_and}
use Rattle.kept_steps.specs.Turned.{is_listed, to_undo}
use Rattle.session_operations.proofs.Following.{follow_step, follow_touched, more_as}
use Rattle.session_operations.proofs.parts.Parts.cells_back.Goals as goal

pub returns-in_err-touch_undone-clause-follow : goal.returns-in_err-touch_undone-clause-follow
returns-in_err-touch_undone-clause-follow c =
    follow_touched (is_listed (to_undo c.args.self.now.session)) c.args.self.now (record { session = c.args.self.now.session; values = c.touch_undone.new.values }) (λ i w h. h) c.touch_undone.ensures.touched refl

pub returns-clause-follow : goal.returns-clause-follow
returns-clause-follow c =
    follow_step c.undo.result (to_undo c.args.self.now.session) c.args.self.now (record { session = c.undo.new.self; values = c.touch_undone.new.values }) (more_as c.undo.ensures.words) c.touch_undone.ensures.touched c.in_ok-touch_undone.ensures.marked
    c.undo.ensures.others c.undo.ensures.err

pub returns-in_err-touch_undone-clause-marks : goal.returns-in_err-touch_undone-clause-marks
returns-in_err-touch_undone-clause-marks c = c.touch_undone.ensures.cells

pub returns-clause-marks : goal.returns-clause-marks
returns-clause-marks c = c.touch_undone.ensures.cells

pub returns-in_err-touch_undone-clause-line_err : goal.returns-in_err-touch_undone-clause-line_err
returns-in_err-touch_undone-clause-line_err c = rw (err_from_is_err_and c.from_residual.result c.from_residual.ensures.1).1 refl
