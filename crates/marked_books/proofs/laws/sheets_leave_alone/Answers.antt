use Rattle.marked_books.proofs.Contents.{sheets_leave_alone}
use Rattle.marked_books.proofs.laws.sheets_leave_alone.Goals as goal

pub returns : goal.returns
returns c = sheets_leave_alone
