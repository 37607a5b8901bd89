-- One read takes the first of the records that are left, or finds that there is none.
use Rattle.csv.specs.Records.{fields_of}
use Rattle.book_files.proofs.RecordSteps.{read-end, read-found}
use Rattle.book_files.proofs.records.Records.advance.Goals as goal

pub returns-in-Ok-true-clause-found : goal.returns-in-Ok-true-clause-found
returns-in-Ok-true-clause-found c _ =
    let plain = c.self.invariant c.if-self.false in
    let read = rw (c.in-Ok-true.is, c.in-Ok-true.field-0-test) at c.read_byte_record.ensures.reads in
    let found = read-found c.self.inside.reader c.read_byte_record.new.self (fields_of c.read_byte_record.new.row) plain (read plain.trim plain.ready) in
    rw (← c.self.view_is, c.if-self.false) found

pub returns-in-Ok-false-clause-end : goal.returns-in-Ok-false-clause-end
returns-in-Ok-false-clause-end c _ =
    let plain = c.self.invariant c.if-self.false in
    let read = rw (c.in-Ok-false.is, c.in-Ok-false.field-0-test) at c.read_byte_record.ensures.reads in
    let none = read-end c.self.inside.reader c.read_byte_record.new.self (fields_of c.read_byte_record.new.row) plain (read plain.trim plain.ready) in
    rw (← c.self.view_is, c.if-self.false) none
