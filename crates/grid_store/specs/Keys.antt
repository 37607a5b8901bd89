-- Where cells are kept: under the lines of their rows and columns. Source: this project's own.
use Rattle.std.specs.Prelude.{Option, option_map, option_and_then}
use Rattle.std.specs.declared.cmp.Ordering.{Ordering}
use Rattle.std.specs.Ordering.{nat_cmp, ordering_then}
use Rattle.cell_addr.specs.declared.place.Place.{Place}
use Rattle.stable_lines.specs.Lines.{line_at, position_of}
use Rattle.stable_lines.specs.Sheets.{table_of}
use Rattle.stable_lines.specs.declared.sheets.SheetLines.{SheetLines}
use Rattle.grid_store.specs.declared.key.CellKey.{CellKey}

-- by sheet, then by the line of the row, then by that of the column, as the derived order compares keys
abbrev pub key_cmp : CellKey → CellKey → Ordering
key_cmp a b = ordering_then (nat_cmp a.sheet b.sheet) (ordering_then (nat_cmp a.row b.row) (nat_cmp a.col b.col))

-- the key of a place, by its two lines
abbrev pub key_at : SheetLines → SheetLines → Place → Option CellKey
key_at rows cols p =
    option_and_then (λ row. option_map (λ col. record { sheet = p.sheet; row = row; col = col }) (line_at (table_of cols p.sheet) p.col)) (line_at (table_of rows p.sheet) p.row)

-- the place of a key: where its two lines stand
abbrev pub place_at : SheetLines → SheetLines → CellKey → Option Place
place_at rows cols k =
    option_and_then (λ row. option_map (λ col. record { sheet = k.sheet; row = row; col = col }) (position_of (table_of cols k.sheet) k.col)) (position_of (table_of rows k.sheet) k.row)
