use Rattle.std.proofs.Common.{◌<◌, arith}
use Rattle.stable_lines.specs.Sheets.{table_of}
use Rattle.grid_store.proofs.Listings.{seen_below}
use Rattle.grid_store.proofs.view.View.has_any_by_rows.Goals as goal

pub returns-in_default : goal.returns-in_default
returns-in_default _ c =
    let g = c.args.self.now in
    let past : c.loop-row.row < (table_of g.rows.now c.args.area.sheet).limit → ⊥ = λ lt. cc (c.in_default.ensures.found.1 (rw c.table-table.ensures lt)) in (
      λ bad. cc,
      λ h. absurd (c.loop-row.invariant h.0 h.1 h.2 (omega arith) (seen_below g.rows.now g.cols.now g.cells.now.entries g.rows_limit g.cols_limit c.args.area.sheet c.loop-row.row past h.0 h.2)),
    )
