-- A field that was read leaves the others to be read; a bad one is the first.
use Rattle.std.proofs.Common.{arith}
use Rattle.std.proofs.lemmas.Result.{err_from_is_err_and}
use Rattle.csv.specs.Records.{fields_of}
use Rattle.script_lang.proofs.FieldsRead.{goes_on, stops}
use Rattle.script_lang.proofs.script.read_arguments.Goals as goal

pub returns-in_err-read : goal.returns-in_err-read
returns-in_err-read c =
    let left = err_from_is_err_and c.from_residual.result c.from_residual.ensures.1 in
    let bad = rw c.field.ensures at c.in_err-read.ensures in
    rw (left.1, left.2) (stops c.in_err-read.field-0.0 c.args.kinds.now (fields_of c.args.fields.now) c.kinds.i c.kinds.arguments _ (omega arith) (omega arith) bad c.kinds.invariant)

pub kinds-preserved : goal.kinds-preserved
kinds-preserved c =
    let read = rw c.field.ensures at c.in_ok-read.ensures in
    goes_on c.args.kinds.now (fields_of c.args.fields.now) c.kinds.i c.kinds.arguments c.read.new.self _ (omega arith) (omega arith) read c.kinds.invariant
