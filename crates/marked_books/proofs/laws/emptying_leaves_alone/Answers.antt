use Rattle.marked_books.proofs.Contents.{emptying_leaves_alone}
use Rattle.marked_books.proofs.laws.emptying_leaves_alone.Goals as goal

pub returns : goal.returns
returns c = emptying_leaves_alone
