use Rattle.std.proofs.Common.{ap}
use Rattle.std.proofs.lemmas.Result.{err_from_is_err_and}
use Rattle.session_questions.specs.SessionValues.{SessionValues}
use Rattle.book_engine.proofs.engine.Engine.remove_name.Goals as goal

pub invariant_of-self : goal.invariant_of-self
invariant_of-self g c = record { fits = c.remove_name.ensures.fits; follow = c.remove_name.ensures.follow (g.C.Customs.customs c.args.self.now.customs) c.args.self.now.day c.args.self.now.follow }

pub invariant_of-self-2 : goal.invariant_of-self-2
invariant_of-self-2 g c = record { fits = c.remove_name.ensures.fits; follow = c.remove_name.ensures.follow (g.C.Customs.customs c.args.self.now.customs) c.args.self.now.day c.args.self.now.follow }

pub returns-clause-marks : goal.returns-clause-marks
returns-clause-marks g c = c.in_ok-remove_name.ensures.marks

pub returns-in_err-remove_name-clause-marks : goal.returns-in_err-remove_name-clause-marks
returns-in_err-remove_name-clause-marks g c = rw (err_from_is_err_and c.from_residual.result c.from_residual.ensures.1).1 tt

pub returns-in_err-remove_name-clause-left : goal.returns-in_err-remove_name-clause-left
returns-in_err-remove_name-clause-left g c = rw (err_from_is_err_and c.from_residual.result c.from_residual.ensures.1).1 (ap (λ (v : SessionValues). v.values) c.in_err-remove_name.ensures.left)
