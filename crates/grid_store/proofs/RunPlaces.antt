-- Where keys on runs of lines stand. Serves the lists of cells.
use Rattle.std.proofs.Common.{◌≡◌, ◌∙◌, ap, ℕ, ◌+◌, ◌-◌, ◌<◌, ◌≤◌, Some, option_map, option_and_then, arith}
use Rattle.stable_lines.specs.Lines.{position_of}
use Rattle.stable_lines.specs.Sheets.{table_of}
use Rattle.stable_lines.specs.declared.run.Run.{Run}
use Rattle.stable_lines.specs.declared.sheets.SheetLines.{SheetLines}
use Rattle.stable_lines.specs.declared.table.LineTable.{LineTable}
use Rattle.grid_store.specs.Keys.{place_at}
use Rattle.grid_store.specs.declared.key.CellKey.{CellKey}
use Rattle.grid_store.specs.internal.Listing.{AreLinesAt}

behind : (a b : ℕ) → b ≤ a → b + (a - b) ≡ a
behind a b le = omega arith

-- a line of a run stands as far behind the run's first position as it is behind its first line
pub on_run : (t : LineTable) (r : Run) (line : ℕ) → AreLinesAt t r → r.to ≤ line → line < r.to + r.count → (position_of t line ≡ Some (r.from + (line - r.to))) × (r.from + (line - r.to) < t.limit)
on_run t r line lines low high =
    let at = lines (line - r.to) (omega (arith, low, high)) ∙ ap Some (behind line r.to low) in
    ((t.inverse (r.from + (line - r.to)) line).0 at, t.within (r.from + (line - r.to)) line at)

pub place_on : (rows cols : SheetLines) (lines across : Run) (k : CellKey) → AreLinesAt (table_of rows k.sheet) lines → lines.to ≤ k.row → k.row < lines.to + lines.count
    → AreLinesAt (table_of cols k.sheet) across → across.to ≤ k.col → k.col < across.to + across.count
    → place_at rows cols k ≡ Some (record { sheet = k.sheet; row = lines.from + (k.row - lines.to); col = across.from + (k.col - across.to) })
place_on rows cols lines across k lines_at low high across_at left right =
    ap (option_and_then (λ row. option_map (λ col. record { sheet = k.sheet; row = row; col = col }) (position_of (table_of cols k.sheet) k.col))) (on_run (table_of rows k.sheet) lines k.row lines_at low high).0
    ∙ ap (option_map (λ col. record { sheet = k.sheet; row = lines.from + (k.row - lines.to); col = col })) (on_run (table_of cols k.sheet) across k.col across_at left right).0
