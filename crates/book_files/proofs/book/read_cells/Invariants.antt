-- The records before a row were read, and those from there on are left.
use Rattle.std.proofs.Common.{◌+◌, ◌≤◌, [], length}
use Rattle.book_files.specs.Books.{file_cells, table_cells}
use Rattle.book_files.specs.internal.Filling.{HasRead}
use Rattle.book_files.proofs.TextFields.{AreTexts}
use Rattle.book_files.proofs.book.read_cells.Given as goal

abbrev pub invariant-records : goal.invariant-records
invariant-records l = record {
  reads : HasRead l.filled [] (file_cells l.bytes) l.cells.list.items (table_cells l.row l.records.left);
  texts : AreTexts l.records.left;
  few : l.row + length l.records.left ≤ length l.bytes + 1;
}

abbrev pub decreases-records : goal.decreases-records
decreases-records l = length l.records.left
