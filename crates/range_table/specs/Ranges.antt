-- What kept summaries stand for. Source: this project's own.
use Rattle.range_table.specs.Table.{RangeTable}
use Rattle.range_table.specs.declared.ranges.Ranges.{Ranges}
use Rattle.range_table.specs.internal.Kept.{map_if}

-- the kept summaries by their blocks, and the count of merged cells
abbrev pub table_of : Ranges → RangeTable
table_of r = record { kept = map_if r.kept; merged = r.merged }
