use Rattle.name_table.specs.Listed.{listed}
use Rattle.kept_book.proofs.ChangedSheets.{StandsFrom}
use Rattle.kept_book.proofs.book.Book.index_of.Given as goal

abbrev pub invariant-loop-index : goal.invariant-loop-index
invariant-loop-index l = StandsFrom l.sheet l.index (listed l.self.names)
