use Rattle.std.proofs.Common.{◌≡◌, map}
use Rattle.std.specs.List.{range_with_len}
use Rattle.value_network.specs.Row.{row_value}
use Rattle.value_network.proofs.row.row_numbers.Given as goal

-- the slots gone by have their values
abbrev pub invariant-slots : goal.invariant-slots
invariant-slots l = l.numbers.items ≡ map (row_value l.row) (range_with_len 0 l.slot-index)
