use Rattle.marked_books.proofs.Naming.{removing_leaves_alone}
use Rattle.marked_books.proofs.laws.removing_leaves_alone.Goals as goal

pub returns : goal.returns
returns c = removing_leaves_alone
