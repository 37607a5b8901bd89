use Rattle.std.proofs.Common.{◌≡◌, None, [], length}
use Rattle.engine_face.specs.internal.Rising.{cells_told}
use Rattle.engine_face.proofs.writing.cells_told.Given as goal

abbrev pub invariant-rows : goal.invariant-rows
invariant-rows l = cells_told l.texts None [] l.initial.rows ≡ cells_told l.texts l.last l.cells.items l.rest

abbrev pub decreases-rows : goal.decreases-rows
decreases-rows l = length l.rest
