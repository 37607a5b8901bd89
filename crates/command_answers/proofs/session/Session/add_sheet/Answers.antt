-- A call that stopped keeps the session.
use Rattle.std.proofs.Common.{◌≡◌, ℕ}
use Rattle.book_model.specs.Operation as op
use Rattle.command_answers.proofs.Executed.{on_err, stop_keeps}
use Rattle.command_answers.proofs.session.Session.add_sheet.Goals as goal

pub returns-in-Err-clause-err : goal.returns-in-Err-clause-err
returns-in-Err-clause-err g c =
    on_err _ _ (stop_keeps {X = ℕ} g.C.Customs.customs (op.add_sheet c.as_str.result.now) (λ d number. number ≡ d.next_sheet) c.args.self.now.engine c.add_sheet.new.self c.in-Err.stop c.in-Err.ensures.does)
