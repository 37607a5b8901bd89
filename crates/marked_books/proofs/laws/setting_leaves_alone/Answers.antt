use Rattle.marked_books.proofs.Contents.{setting_leaves_alone}
use Rattle.marked_books.proofs.laws.setting_leaves_alone.Goals as goal

pub returns : goal.returns
returns c = setting_leaves_alone
