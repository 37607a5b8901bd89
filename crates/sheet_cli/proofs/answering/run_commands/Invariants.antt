-- What was counted, and what is left to count, is all; nothing was written.
use Rattle.std.proofs.Common.{◌≡◌, drop}
use Rattle.book_engine.specs.Engine.{StandsFor}
use Rattle.book_model.specs.Workbook.{State}
use Rattle.sheet_cli.specs.Answering.{answers_from}
use Rattle.sheet_cli.proofs.Tallies.{Tallied}
use Rattle.sheet_cli.proofs.answering.run_commands.Given as goal

abbrev pub invariant-commands : goal.invariant-commands
invariant-commands g l = record {
  leads : (d : State) → StandsFor g.C.Customs.customs l.fn.session.engine d → Tallied g.C.Customs.customs l.strict l.session.engine l.tally (drop l.command-index l.commands) (answers_from d l.commands);
  taken : g.O.Sink.taken l.out ≡ g.O.Sink.taken l.fn.out;
  faults : g.O.Sink.faults l.out ≡ g.O.Sink.faults l.fn.out;
}
