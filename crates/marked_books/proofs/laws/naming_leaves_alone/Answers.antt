use Rattle.marked_books.proofs.Naming.{naming_leaves_alone}
use Rattle.marked_books.proofs.laws.naming_leaves_alone.Goals as goal

pub returns : goal.returns
returns c = naming_leaves_alone
