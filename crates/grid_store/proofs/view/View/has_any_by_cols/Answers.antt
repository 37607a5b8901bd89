use Rattle.std.proofs.Common.{◌<◌, arith}
use Rattle.stable_lines.specs.Sheets.{table_of}
use Rattle.grid_store.proofs.ColumnKeys.{seen_before}
use Rattle.grid_store.proofs.view.View.has_any_by_cols.Goals as goal

pub returns-in_default : goal.returns-in_default
returns-in_default _ c =
    let g = c.args.self.now in
    let past : c.loop-col.col < (table_of g.cols.now c.args.area.sheet).limit → ⊥ = λ lt. cc (c.in_default.ensures.found.1 (rw c.table-table.ensures lt)) in (
      λ bad. cc,
      λ h. absurd (c.loop-col.invariant h.0 h.1 h.2 (omega arith) (seen_before g.rows.now g.cols.now g.cells.now.entries g.rows_limit g.cols_limit c.args.area.sheet c.loop-col.col past h.0 h.2)),
    )
