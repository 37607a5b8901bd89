use Rattle.marked_books.proofs.Naming.{changing_leaves_to_needs}
use Rattle.marked_books.proofs.laws.changing_leaves_to_needs.Goals as goal

pub returns : goal.returns
returns c = changing_leaves_to_needs
