use Rattle.std.proofs.Common.{◌≡◌}
use Rattle.std.specs.FinMap.{from_entries}
use Rattle.range_table.specs.internal.Kept.{map_of}
use Rattle.range_table.specs.internal.Tables.{kept_below}
use Rattle.range_table.proofs.kept.KeptSummaries.copied.Given as goal

-- what is kept under the numbers gone by is kept in the copy
abbrev pub invariant-numbers : goal.invariant-numbers
invariant-numbers l = map_of l.copy ≡ from_entries (kept_below l.self.table l.number)
