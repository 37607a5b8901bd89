use Rattle.std.proofs.Common.{◌≡◌, drop}
use Rattle.book_model.specs.Refusals.{at_cells, first_cause}
use Rattle.session_operations.specs.Seen.{state_of}
use Rattle.session_operations.proofs.parts.Parts.check_places.Given as goal

-- the places to come decide
abbrev pub invariant-loop-at : goal.invariant-loop-at
invariant-loop-at l = first_cause (at_cells (state_of l.self).book l.cells) ≡ first_cause (at_cells (state_of l.self).book (drop l.at-index l.cells))
