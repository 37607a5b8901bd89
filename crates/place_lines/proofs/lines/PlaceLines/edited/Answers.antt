use Rattle.std.proofs.Common.{◌∙◌}
use Rattle.place_lines.proofs.LowLines.{replaced_low, unchanged_low}
use Rattle.place_lines.proofs.lines.PlaceLines.edited.Goals as goal

pub invariant_of-result : goal.invariant_of-result
invariant_of-result c =
    let old = c.args.self.now in
    let rows = c.in_ok-with_table-in-Rows in
    let cols = c.in_ok-copied-in-Rows in
    record {
      row_limit = rows.ensures.limit ∙ old.row_limit;
      col_limit = cols.ensures.limit ∙ old.col_limit;
      low_rows = replaced_low old.rows rows.field-0 c.args.sheet c.in_ok-table.table rows.ensures.sheet c.in_ok-table.ensures.low rows.ensures.others old.low_rows;
      low_cols = unchanged_low old.cols cols.field-0 cols.ensures.unchanged old.low_cols;
    }

pub invariant_of-result-in-Cols : goal.invariant_of-result-in-Cols
invariant_of-result-in-Cols c =
    let old = c.args.self.now in
    let rows = c.in_ok-copied-in-Cols in
    let cols = c.in_ok-with_table-in-Cols in
    record {
      row_limit = rows.ensures.limit ∙ old.row_limit;
      col_limit = cols.ensures.limit ∙ old.col_limit;
      low_rows = unchanged_low old.rows rows.field-0 rows.ensures.unchanged old.low_rows;
      low_cols = replaced_low old.cols cols.field-0 c.args.sheet c.in_ok-table.table cols.ensures.sheet c.in_ok-table.ensures.low cols.ensures.others old.low_cols;
    }
