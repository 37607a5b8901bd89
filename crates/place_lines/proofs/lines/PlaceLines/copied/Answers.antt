use Rattle.std.proofs.Common.{◌∙◌}
use Rattle.place_lines.proofs.LowLines.{unchanged_low}
use Rattle.place_lines.proofs.lines.PlaceLines.copied.Goals as goal

pub invariant_of-result : goal.invariant_of-result
invariant_of-result c =
    let old = c.args.self.now in
    let rows = c.in_ok-copied in
    let cols = c.in_ok-copied-2 in
    record {
      row_limit = rows.ensures.limit ∙ old.row_limit;
      col_limit = cols.ensures.limit ∙ old.col_limit;
      low_rows = unchanged_low old.rows rows.field-0 rows.ensures.unchanged old.low_rows;
      low_cols = unchanged_low old.cols cols.field-0 cols.ensures.unchanged old.low_cols;
    }
