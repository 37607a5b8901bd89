use Rattle.marked_books.proofs.Contents.{pasting_leaves_alone}
use Rattle.marked_books.proofs.laws.pasting_leaves_alone.Goals as goal

pub returns : goal.returns
returns c = pasting_leaves_alone
