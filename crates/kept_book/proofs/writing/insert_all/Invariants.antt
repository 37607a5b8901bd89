use Rattle.kept_book.proofs.Inserted.{Inserting}
use Rattle.kept_book.proofs.writing.insert_all.Given as goal

abbrev pub invariant-loop-at : goal.invariant-loop-at
invariant-loop-at l = Inserting l.fn.first l.fn.trees.items l.fn.lazy l.lazy l.id l.at-iterator.rest.items
