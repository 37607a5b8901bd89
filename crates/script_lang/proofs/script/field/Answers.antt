-- A record has each field below its length.
use Rattle.std.proofs.Common.{sym, arith}
use Rattle.csv.proofs.RecordFacts.{field-there}
use Rattle.csv.specs.Records.{fields_of}
use Rattle.script_lang.proofs.script.field.Goals as goal

pub unreachable-requires : goal.unreachable-requires
unreachable-requires c = field-there (fields_of c.args.fields.now) c.from.result (omega (arith, c.from.ensures, c.requires)) (sym c.in-None.ensures.value)
