use Rattle.std.proofs.Common.{◌↔◌, length}
use Rattle.kept_book.specs.Kept.{changes_of}
use Rattle.kept_steps.specs.Turned.{AreOfCells}
use Rattle.session_values.proofs.parts.are_of_cells.Given as goal

-- all parts are if those that are left are
abbrev pub invariant-parts : goal.invariant-parts
invariant-parts l = AreOfCells (changes_of l.left) ↔ AreOfCells (changes_of l.fn.parts)

abbrev pub decreases-parts : goal.decreases-parts
decreases-parts l = length l.left
