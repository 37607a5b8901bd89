-- What a run that was stopped had read of its source.
use Rattle.std.proofs.Common.{rules, map}
use Rattle.std.specs.Prelude.{string_bytes}
use Rattle.command_words.specs.Words.{meaning}
use Rattle.sheet_cli.specs.declared.ending.EarlyEnd.TheVariants as stop
use Rattle.sheet_cli.proofs.SourceRead.{stopped_read}
use Rattle.sheet_cli.proofs.program.run.Goals as goal

pub returns-in-Err-ReadFault-clause-source : goal.returns-in-Err-ReadFault-clause-source
returns-in-Err-ReadFault-clause-source g c = stopped_read (meaning (map string_bytes c.args.words.now)) 5 stop.ReadFault _ _ (search rules) c.in-Err-ReadFault.ensures.source

pub returns-in-Err-WriteFault-clause-source : goal.returns-in-Err-WriteFault-clause-source
returns-in-Err-WriteFault-clause-source g c = stopped_read (meaning (map string_bytes c.args.words.now)) 6 stop.WriteFault _ _ (search rules) c.in-Err-WriteFault.ensures.source

pub returns-in-Err-NoMemory-clause-source : goal.returns-in-Err-NoMemory-clause-source
returns-in-Err-NoMemory-clause-source g c = stopped_read (meaning (map string_bytes c.args.words.now)) 7 stop.NoMemory _ _ (search rules) c.in-Err-NoMemory.ensures.source
