use Rattle.std.proofs.Common.{◌≡◌, true, take}
use Rattle.std.specs.List.{list_any}
use Rattle.block_index.specs.Index.{filed_in}
use Rattle.needs_order.specs.Needs.{has}
use Rattle.range_table.specs.internal.GivenUp.{GivesUp}
use Rattle.range_table.proofs.giving_up.give_up_under.Given as goal

-- of the blocks under the slots gone by summaries are given up
abbrev pub invariant-slots : goal.invariant-slots
invariant-slots l = GivesUp l.at (λ n. list_any (λ s. has n (filed_in l.cells s)) (take l.slot-index l.slots) ≡ true) l.fn.table l.table
