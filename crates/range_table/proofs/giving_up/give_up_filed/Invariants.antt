use Rattle.std.proofs.Common.{◌≡◌, true, take}
use Rattle.needs_order.specs.Needs.{has}
use Rattle.range_table.specs.internal.GivenUp.{GivesUp}
use Rattle.range_table.proofs.giving_up.give_up_filed.Given as goal

-- of the blocks of the numbers gone by summaries are given up
abbrev pub invariant-numbers : goal.invariant-numbers
invariant-numbers l = GivesUp l.at (λ n. has n (take l.number-index l.numbers) ≡ true) l.fn.table l.table
