-- A field that was read leaves the others to be read; a bad one is the first.
use Rattle.std.proofs.Common.{sym}
use Rattle.std.proofs.lemmas.Result.{err_from_is_err_and}
use Rattle.csv.specs.Records.{fields_of}
use Rattle.csv.proofs.RecordFacts.{text-of}
use Rattle.book_files.proofs.FillSteps.{field-read, field-refused, record-read}
use Rattle.book_files.proofs.book.read_record.Goals as goal

pub read_field-requires : goal.read_field-requires
read_field-requires c = text-of (fields_of c.args.fields.now) c.fields.col c.in-Some.field.now c.requires (sym c.in-Some.ensures.value)

pub returns-in_err-read_field : goal.returns-in_err-read_field
returns-in_err-read_field c =
    let left = err_from_is_err_and c.from_residual.result c.from_residual.ensures.1 in
    rw (left.1, left.2) (field-refused c.in_err-read_field.field-0.0 c.args.filled c.args.row c.fields.col (fields_of c.args.fields.now) c.in-Some.field.now c.args.cells.now.list.items c.fields.cells.list.items (sym c.in-Some.ensures.value) c.fields.invariant c.in_err-read_field.ensures)

pub fields-preserved : goal.fields-preserved
fields-preserved c = field-read c.args.filled c.args.row c.fields.col (fields_of c.args.fields.now) c.in-Some.field.now c.args.cells.now.list.items c.fields.cells.list.items c.read_field.new.cells.list.items (sym c.in-Some.ensures.value) c.fields.invariant c.in_ok-read_field.ensures

pub returns : goal.returns
returns c = record-read c.args.filled c.args.row c.fields.col (fields_of c.args.fields.now) c.args.cells.now.list.items c.fields.cells.list.items (sym c.in_default.ensures.value) c.fields.invariant
