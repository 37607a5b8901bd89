use Rattle.grid_store.proofs.LinesRenewed.{renewed_back, renewed_forth}
use Rattle.grid_store.proofs.grid.Grid.renewed.Goals as goal

pub returns-in-Forth : goal.returns-in-Forth
returns-in-Forth g c =
    let grid = c.args.self.now in
    renewed_forth grid.rows grid.cols grid.rows_limit grid.cols_limit c.edited.result c.args.axis c.args.edit c.args.sheet c.lines.result.now c.table-table.result.now c.lines.ensures c.table-table.ensures c.args.way c.in-Forth.is c.edited.ensures

pub returns-in-Back : goal.returns-in-Back
returns-in-Back g c =
    let grid = c.args.self.now in
    renewed_back grid.rows grid.cols grid.rows_limit grid.cols_limit c.unedited.result c.args.axis c.args.edit c.args.sheet c.lines.result.now c.table-table.result.now c.lines.ensures c.table-table.ensures c.args.way c.in-Back.is c.unedited.ensures
