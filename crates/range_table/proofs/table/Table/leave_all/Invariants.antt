use Rattle.std.proofs.Common.{take}
use Rattle.range_table.proofs.Changing.{AreLeft}
use Rattle.range_table.proofs.table.Table.leave_all.Given as goal

-- the numbers gone by left
abbrev pub invariant-numbers : goal.invariant-numbers
invariant-numbers l = AreLeft (take l.number-index l.left) l.fn.self l.self
