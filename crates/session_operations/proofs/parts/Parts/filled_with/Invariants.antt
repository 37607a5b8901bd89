use Rattle.std.proofs.Common.{◌≡◌, drop}
use Rattle.std.specs.FinMap as fin
use Rattle.session_operations.specs.Seen.{state_of}
use Rattle.session_operations.specs.internal.Giving.{counted_all}
use Rattle.session_operations.proofs.parts.Parts.filled_with.Given as goal

-- the count, with the cells to come, is the count in the end
abbrev pub invariant-loop-at : goal.invariant-loop-at
invariant-loop-at l = counted_all (state_of l.self).book.cells (drop l.at-index l.cells) l.count ≡ counted_all (state_of l.self).book.cells l.cells (fin.len (state_of l.self).book.cells)
