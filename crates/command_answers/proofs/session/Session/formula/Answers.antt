-- A read keeps the session, and so does a call that stopped.
use Rattle.std.proofs.Common.{◌≡◌, refl, ℕ, List, Option}
use Rattle.book_model.specs.Answers.{formula_of}
use Rattle.book_model.specs.Operation as op
use Rattle.command_answers.proofs.Executed.{on_err, read_keeps, stop_keeps}
use Rattle.command_answers.proofs.session.Session.formula.Goals as goal

pub returns-in-Ok-Some-clause-err : goal.returns-in-Ok-Some-clause-err
returns-in-Ok-Some-clause-err g c =
    let at = c.place-place.result in
    on_err _ _ (read_keeps {X = Option (List ℕ)} g.C.Customs.customs (op.formula at) (λ d text. text ≡ formula_of d at) c.args.self.now.engine c.formula.new.self c.in-Ok-Some.field-0 (λ d. refl) c.in-Ok-Some.ensures.does)

pub returns-in-Ok-None-clause-err : goal.returns-in-Ok-None-clause-err
returns-in-Ok-None-clause-err g c =
    let at = c.place-place.result in
    on_err _ _ (read_keeps {X = Option (List ℕ)} g.C.Customs.customs (op.formula at) (λ d text. text ≡ formula_of d at) c.args.self.now.engine c.formula.new.self c.in-Ok-None.field-0 (λ d. refl) c.in-Ok-None.ensures.does)

pub returns-in-Err-clause-err : goal.returns-in-Err-clause-err
returns-in-Err-clause-err g c =
    let at = c.place-place.result in
    on_err _ _ (stop_keeps {X = Option (List ℕ)} g.C.Customs.customs (op.formula at) (λ d text. text ≡ formula_of d at) c.args.self.now.engine c.formula.new.self c.in-Err.stop c.in-Err.ensures.does)
