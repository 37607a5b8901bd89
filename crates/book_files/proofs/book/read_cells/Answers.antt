-- Before the first record nothing was read; the fault of a record is the first of the file.
use Rattle.std.proofs.Common.{ap, refl, arith, Ok}
use Rattle.std.proofs.lemmas.Result.{err_from_is_err_and}
use Rattle.csv.specs.Records.{fields_of}
use Rattle.book_files.specs.Books.{file_cells}
use Rattle.book_files.proofs.FillSteps.{record-refused}
use Rattle.book_files.proofs.RecordCounts.{few_records}
use Rattle.book_files.proofs.TextFields.{are-texts}
use Rattle.book_files.proofs.book.read_cells.Goals as goal

pub records-init : goal.records-init
records-init c =
    let few = few_records c.args.bytes.now in
    rw (c.open-records.ensures, c.in_ok-cells.ensures) (record {
      reads = (refl, refl);
      texts = are-texts c.args.bytes.now c.requires;
      few = omega (arith, few);
    })

pub returns-in_err-read_record : goal.returns-in_err-read_record
returns-in_err-read_record c =
    let left = err_from_is_err_and c.from_residual-in_err-read_record.result c.from_residual-in_err-read_record.ensures.1 in
    rw (left.1, left.2) (record-refused c.in_err-read_record.field-0.0 c.args.filled c.records.row (file_cells c.args.bytes.now) c.records.records.left c.advance.new.self.left c.advance.new.self.fields (fields_of c.fields.result.now) c.records.cells.list.items (c.in_ok-advance.ensures.found (ap Ok c.if-branch.true)) c.fields.ensures c.records.invariant.reads c.in_err-read_record.ensures)
