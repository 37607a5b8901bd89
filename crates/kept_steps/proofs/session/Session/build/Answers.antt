use Rattle.std.proofs.Common.{rules}
use Rattle.kept_steps.proofs.GridCells.{grid-inside}
use Rattle.kept_steps.proofs.session.Session.build.Goals as goal

pub invariant_of-result : goal.invariant_of-result
invariant_of-result c = let inside = grid-inside c.in_ok-book.book.grid in search (rules, inside)
