-- The rows so far became pairs.
use Rattle.std.proofs.Common.{◌≡◌, ◌++◌, drop}
use Rattle.tariffs.proofs.rules.pairs.Given as goal

abbrev pub invariant-rows : goal.invariant-rows
invariant-rows l = l.list.items ++ drop l.row-index l.table ≡ l.table
