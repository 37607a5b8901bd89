use Rattle.grid_store.specs.Grid.{cells_of}
use Rattle.kept_book.specs.Frame.{numbered_at}
use Rattle.kept_book.specs.Kept.{at_of}
use Rattle.session_operations.proofs.WrittenCells.{some_there}
use Rattle.session_operations.proofs.parts.Parts.is_filled.Goals as goal

pub returns : goal.returns
returns c =
    let stands = numbered_at (at_of c.args.self.now.session.book) c.args.self.now.session.book.lazy.line.cursor in
    some_there stands (cells_of c.args.self.now.session.book.grid) c.args.at c.cell.result c.is_some.result c.cell.ensures c.is_some.ensures
