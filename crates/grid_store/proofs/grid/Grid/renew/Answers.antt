use Rattle.std.proofs.Common.{◌∙◌}
use Rattle.cell_addr.specs.Axis.{limit_of}
use Rattle.grid_store.specs.internal.Ways.{line_goes, turned}
use Rattle.grid_store.proofs.RenewedCells.{renewed_cells, renewed_standing}
use Rattle.grid_store.proofs.Renewals.{renewed_cols, renewed_rows, standing_given}
use Rattle.grid_store.proofs.grid.Grid.renew.Goals as goal

pub invariant_of-self : goal.invariant_of-self
invariant_of-self _ c =
    let g = c.args.self.now in
    let renewal = renewed_rows c.args.axis c.in-Rows.is c.args.sheet (line_goes (turned c.args.way) (limit_of c.args.axis) c.args.edit) g.rows g.cols c.replace.new.self c.args.table c.requires.renewed c.replace.ensures.replaced c.replace.ensures.others in
    record {
      rows_limit = c.replace.ensures.limit ∙ g.rows_limit;
      cols_limit = g.cols_limit;
      standing = renewed_standing c.args.way c.args.sheet c.args.axis c.args.edit c.requires.sound g.rows g.cols c.replace.new.self g.cols renewal g.rows_limit g.cols_limit g.cells.entries g.standing c.requires.kept;
    }

pub invariant_of-self-in-Cols : goal.invariant_of-self-in-Cols
invariant_of-self-in-Cols _ c =
    let g = c.args.self.now in
    let put = c.replace-in-Cols in
    let renewal = renewed_cols c.args.axis c.in-Cols.is c.args.sheet (line_goes (turned c.args.way) (limit_of c.args.axis) c.args.edit) g.rows g.cols put.new.self c.args.table c.requires.renewed put.ensures.replaced put.ensures.others in
    record {
      rows_limit = g.rows_limit;
      cols_limit = put.ensures.limit ∙ g.cols_limit;
      standing = renewed_standing c.args.way c.args.sheet c.args.axis c.args.edit c.requires.sound g.rows g.cols g.rows put.new.self renewal g.rows_limit g.cols_limit g.cells.entries g.standing c.requires.kept;
    }

pub returns-in-Rows-clause-carried : goal.returns-in-Rows-clause-carried
returns-in-Rows-clause-carried _ c =
    let g = c.args.self.now in
    let renewal = renewed_rows c.args.axis c.in-Rows.is c.args.sheet (line_goes (turned c.args.way) (limit_of c.args.axis) c.args.edit) g.rows g.cols c.replace.new.self c.args.table c.requires.renewed c.replace.ensures.replaced c.replace.ensures.others in
    renewed_cells c.args.way c.args.sheet c.args.axis c.args.edit c.requires.sound g.rows g.cols c.replace.new.self g.cols renewal g.rows_limit g.cols_limit g.cells.entries (λ k some. standing_given g.rows g.cols k (g.standing k some)) (c.replace.ensures.limit ∙ g.rows_limit) g.cols_limit

pub returns-in-Cols-clause-carried : goal.returns-in-Cols-clause-carried
returns-in-Cols-clause-carried _ c =
    let g = c.args.self.now in
    let put = c.replace-in-Cols in
    let renewal = renewed_cols c.args.axis c.in-Cols.is c.args.sheet (line_goes (turned c.args.way) (limit_of c.args.axis) c.args.edit) g.rows g.cols put.new.self c.args.table c.requires.renewed put.ensures.replaced put.ensures.others in
    renewed_cells c.args.way c.args.sheet c.args.axis c.args.edit c.requires.sound g.rows g.cols g.rows put.new.self renewal g.rows_limit g.cols_limit g.cells.entries (λ k some. standing_given g.rows g.cols k (g.standing k some)) g.rows_limit (put.ensures.limit ∙ g.cols_limit)

pub returns-in-Rows-clause-lines : goal.returns-in-Rows-clause-lines
returns-in-Rows-clause-lines _ c =
    let g = c.args.self.now in
    renewed_rows c.args.axis c.in-Rows.is c.args.sheet (line_goes (turned c.args.way) (limit_of c.args.axis) c.args.edit) g.rows g.cols c.replace.new.self c.args.table c.requires.renewed c.replace.ensures.replaced c.replace.ensures.others

pub returns-in-Cols-clause-lines : goal.returns-in-Cols-clause-lines
returns-in-Cols-clause-lines _ c =
    let g = c.args.self.now in
    let put = c.replace-in-Cols in
    renewed_cols c.args.axis c.in-Cols.is c.args.sheet (line_goes (turned c.args.way) (limit_of c.args.axis) c.args.edit) g.rows g.cols put.new.self c.args.table c.requires.renewed put.ensures.replaced put.ensures.others
