use Rattle.range_table.proofs.Changing.{ArePut}
use Rattle.range_table.proofs.table.Table.put_all.Given as goal

-- the states gone by are set
abbrev pub invariant-numbers : goal.invariant-numbers
invariant-numbers l = ArePut l.arrived l.fn.self l.self l.number-iterator
