-- Nothing is read where a list is generated.
use Rattle.command_words.specs.Words.{seen}
use Rattle.sheet_cli.proofs.SourceRead.{generated_unread, reads_not}
use Rattle.sheet_cli.proofs.program.run_said.Goals as goal

pub returns-in-Some-clause-source : goal.returns-in-Some-clause-source
returns-in-Some-clause-source g c =
    let said = seen c.args.said.now in
    generated_unread said (g.I.Source.left c.args.input.now) c.run_generated.result (reads_not said c.in-Some.size c.in-Some.is)
