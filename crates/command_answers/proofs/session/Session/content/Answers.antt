-- A read keeps the session, and so does a call that stopped.
use Rattle.std.proofs.Common.{◌≡◌, refl, ℕ, List}
use Rattle.book_model.specs.Answers.{content_text}
use Rattle.book_model.specs.Operation as op
use Rattle.command_answers.proofs.Executed.{on_err, read_keeps, stop_keeps}
use Rattle.command_answers.proofs.session.Session.content.Goals as goal

pub returns-in-Ok-clause-err : goal.returns-in-Ok-clause-err
returns-in-Ok-clause-err g c =
    let at = c.place-place.result in
    on_err _ _ (read_keeps {X = List ℕ} g.C.Customs.customs (op.content at) (λ d text. text ≡ content_text d at) c.args.self.now.engine c.content.new.self c.in-Ok.text (λ d. refl) c.in-Ok.ensures.does)

pub returns-in-Err-clause-err : goal.returns-in-Err-clause-err
returns-in-Err-clause-err g c =
    let at = c.place-place.result in
    on_err _ _ (stop_keeps {X = List ℕ} g.C.Customs.customs (op.content at) (λ d text. text ≡ content_text d at) c.args.self.now.engine c.content.new.self c.in-Err.stop c.in-Err.ensures.does)
