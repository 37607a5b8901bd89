-- The fields before a column were read, whatever stands behind them.
use Rattle.std.proofs.Common.{◌-◌}
use Rattle.csv.specs.Records.{field_count, fields_of}
use Rattle.book_files.proofs.FillSteps.{HasReadTo}
use Rattle.book_files.proofs.book.read_record.Given as goal

abbrev pub invariant-fields : goal.invariant-fields
invariant-fields l = HasReadTo l.filled l.row (fields_of l.fields) l.col l.fn.cells.list.items l.cells.list.items

abbrev pub decreases-fields : goal.decreases-fields
decreases-fields l = field_count l.fields - l.col
