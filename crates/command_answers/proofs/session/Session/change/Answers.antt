-- A call that stopped keeps the session.
use Rattle.book_engine.specs.Turns.{NoAnswer}
use Rattle.command_answers.proofs.Executed.{on_err, stop_keeps_for}
use Rattle.command_answers.proofs.session.Session.change.Goals as goal

pub returns-in-Err-clause-err : goal.returns-in-Err-clause-err
returns-in-Err-clause-err g c =
    on_err _ _ (stop_keeps_for {X = Unit {0}} g.C.Customs.customs c.args.command.now NoAnswer c.args.self.now.engine c.ask.new.engine c.in-Err.stop c.in-Err.ensures)
