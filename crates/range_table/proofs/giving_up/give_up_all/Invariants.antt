use Rattle.std.proofs.Common.{◌<◌}
use Rattle.range_table.specs.internal.GivenUp.{GivesUp}
use Rattle.range_table.proofs.giving_up.give_up_all.Given as goal

-- of the blocks of the numbers gone by summaries are given up
abbrev pub invariant-numbers : goal.invariant-numbers
invariant-numbers l = GivesUp l.at (λ n. n < l.number) l.fn.table l.table
