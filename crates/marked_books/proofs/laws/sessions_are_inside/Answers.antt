use Rattle.marked_books.proofs.Shifting.{sessions_are_inside}
use Rattle.marked_books.proofs.laws.sessions_are_inside.Goals as goal

pub returns : goal.returns
returns c = sessions_are_inside
