-- What was written of the line of a command before a run was stopped.
use Rattle.std.proofs.Common.{◌∙◌, subst}
use Rattle.book_files.specs.Outside.{AppendsPart}
use Rattle.sheet_cli.specs.internal.Answers.{PartOfCommand}
use Rattle.command_answers.proofs.Executed.{on_err}
use Rattle.sheet_cli.proofs.Outcomes.{line_part, no_part}
use Rattle.sheet_cli.proofs.answering.run_command.Goals as goal

pub returns-in_err-answer-clause-part : goal.returns-in_err-answer-clause-part
returns-in_err-answer-clause-part g c = on_err _ _ (no_part g.C.Customs.customs c.args.command.now c.args.session.now.engine (g.O.Sink.taken c.args.out.now))

pub returns-in_err-write-clause-part : goal.returns-in_err-write-clause-part
returns-in_err-write-clause-part g c =
    let old = g.O.Sink.taken c.args.out.now in
    let new = g.O.Sink.taken c.write.new.out in
    let part : PartOfCommand g.C.Customs.customs c.args.command.now c.args.session.now.engine old new =
    λ d stands. subst (λ l. AppendsPart old new l) (c.deref.ensures.value ∙ (c.in_ok-answer.ensures.ok d stands).0) (line_part (Unit {0}) c.deref.result.now old new c.in_err-write.field-0.0 c.in_err-write.ensures.printed) in
    on_err _ _ part
