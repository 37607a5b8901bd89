use Rattle.std.proofs.lemmas.Result.{err_from_is_err_and}
use Rattle.book_engine.proofs.engine.Engine.undo.Goals as goal

pub invariant_of-self : goal.invariant_of-self
invariant_of-self g c = record { fits = c.undo.ensures.fits; follow = c.undo.ensures.follow (g.C.Customs.customs c.args.self.now.customs) c.args.self.now.day c.args.self.now.follow }

pub invariant_of-self-2 : goal.invariant_of-self-2
invariant_of-self-2 g c = record { fits = c.undo.ensures.fits; follow = c.undo.ensures.follow (g.C.Customs.customs c.args.self.now.customs) c.args.self.now.day c.args.self.now.follow }

pub returns-clause-marks : goal.returns-clause-marks
returns-clause-marks g c = c.in_ok-undo.ensures.marks

pub returns-in_err-undo-clause-marks : goal.returns-in_err-undo-clause-marks
returns-in_err-undo-clause-marks g c = rw (err_from_is_err_and c.from_residual.result c.from_residual.ensures.1).1 tt

pub returns-in_err-undo-clause-line_err : goal.returns-in_err-undo-clause-line_err
returns-in_err-undo-clause-line_err g c = rw (err_from_is_err_and c.from_residual.result c.from_residual.ensures.1).1 c.in_err-undo.ensures.line_err
