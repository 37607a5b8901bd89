-- What was read so far and what is read of the other fields make what all fields say.
use Rattle.std.proofs.Common.{◌≡◌, ◌+◌, drop}
use Rattle.csv.specs.Records.{fields_of}
use Rattle.script_lang.specs.Arguments.{no_arguments, read_from}
use Rattle.script_lang.proofs.script.read_arguments.Given as goal

abbrev pub invariant-kinds : goal.invariant-kinds
invariant-kinds l = read_from (l.i + 1) (drop l.i l.kinds) (drop (l.i + 1) (fields_of l.fields)) l.arguments ≡ read_from 1 l.kinds (drop 1 (fields_of l.fields)) no_arguments
