use Rattle.marked_books.proofs.Naming.{adding_leaves_alone}
use Rattle.marked_books.proofs.laws.adding_leaves_alone.Goals as goal

pub returns : goal.returns
returns c = adding_leaves_alone
