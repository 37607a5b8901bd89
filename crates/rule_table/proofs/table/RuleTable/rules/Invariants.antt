use Rattle.std.proofs.Common.{◌≡◌, [], length}
use Rattle.rule_table.specs.Rules.{rules_of}
use Rattle.rule_table.specs.Table.{rows_told}
use Rattle.rule_table.proofs.table.RuleTable.rules.Given as goal

abbrev pub invariant-rows : goal.invariant-rows
invariant-rows l = rows_told l.self.words.now l.self.pairs.now (rules_of l.rules) l.rest ≡ rows_told l.self.words.now l.self.pairs.now [] l.self.rows.now

abbrev pub decreases-rows : goal.decreases-rows
decreases-rows l = length l.rest
