use Rattle.std.proofs.Common.{◌≡◌, [], length}
use Rattle.rule_table.specs.Table.{numbers_told}
use Rattle.rule_table.proofs.table.numbers_of.Given as goal

abbrev pub invariant-pairs : goal.invariant-pairs
invariant-pairs l = numbers_told l.numbers.items l.rest ≡ numbers_told [] l.pairs

abbrev pub decreases-pairs : goal.decreases-pairs
decreases-pairs l = length l.rest
