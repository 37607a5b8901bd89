-- A read keeps the session, and so does a call that stopped.
use Rattle.std.proofs.Common.{◌≡◌, refl}
use Rattle.cell_value.specs.declared.scalar.Scalar.{Scalar}
use Rattle.book_model.specs.Answers.{tried_value}
use Rattle.book_model.specs.Operation as op
use Rattle.command_answers.proofs.Executed.{on_err, read_keeps, stop_keeps}
use Rattle.command_answers.proofs.session.Session.try_formula.Goals as goal

pub returns-in-Ok-clause-err : goal.returns-in-Ok-clause-err
returns-in-Ok-clause-err g c =
    let sheet = c.id-sheet.result in
    let text = c.as_str.result.now in
    on_err _ _ (read_keeps {X = Scalar} g.C.Customs.customs (op.try_formula sheet text) (λ d scalar. scalar ≡ tried_value d sheet text) c.args.self.now.engine c.try_formula.new.self c.in-Ok.scalar (λ d. refl) c.in-Ok.ensures.does)

pub returns-in-Err-clause-err : goal.returns-in-Err-clause-err
returns-in-Err-clause-err g c =
    let sheet = c.id-sheet.result in
    let text = c.as_str.result.now in
    on_err _ _ (stop_keeps {X = Scalar} g.C.Customs.customs (op.try_formula sheet text) (λ d scalar. scalar ≡ tried_value d sheet text) c.args.self.now.engine c.try_formula.new.self c.in-Err.stop c.in-Err.ensures.does)
