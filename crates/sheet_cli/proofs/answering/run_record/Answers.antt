-- For want of memory nothing was written.
use Rattle.csv.specs.Records.{fields_of}
use Rattle.script_lang.specs.Command.{command_in}
use Rattle.sheet_cli.proofs.Outcomes.{nothing_answered}
use Rattle.sheet_cli.proofs.answering.run_record.Goals as goal

pub returns-in-Err-NoMemory-clause-part : goal.returns-in-Err-NoMemory-clause-part
returns-in-Err-NoMemory-clause-part g c = nothing_answered g.C.Customs.customs (command_in c.args.version.now c.args.number (fields_of c.args.fields.now)) c.args.number c.args.session.now.engine (g.O.Sink.taken c.args.out.now)
