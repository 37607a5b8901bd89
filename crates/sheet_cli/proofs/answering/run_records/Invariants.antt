-- What was written, and what the records that are left will write, is the whole output.
use Rattle.std.proofs.Common.{◌+◌, ◌≤◌, length}
use Rattle.book_engine.specs.Engine.{StandsFor}
use Rattle.book_model.specs.Workbook.{State}
use Rattle.script_lang.specs.declared.commands.Version.TheVariants.{Two}
use Rattle.csv.specs.Reading.{records, default_config, strip_bom}
use Rattle.sheet_cli.specs.Answering.{outcome_from}
use Rattle.sheet_cli.proofs.Outcomes.{Leads}
use Rattle.sheet_cli.proofs.answering.run_records.Given as goal

abbrev pub invariant-records : goal.invariant-records
invariant-records g l = record {
  leads : (d : State) → StandsFor g.C.Customs.customs l.fn.session.engine d
      → Leads g.C.Customs.customs l.strict l.version l.session.engine (l.number + 1) l.records.left (g.O.Sink.taken l.fn.out) (g.O.Sink.taken l.out) (outcome_from l.strict Two d 1 (records default_config (strip_bom l.script)));
  counted : l.number + length l.records.left ≤ 67108865;
  later : g.O.Sink.faults l.fn.out ≤ g.O.Sink.faults l.out;
}

abbrev pub decreases-records : goal.decreases-records
decreases-records g l = length l.records.left
