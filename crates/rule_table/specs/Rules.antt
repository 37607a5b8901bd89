-- The words and rules of custom functions. Source: this project's own.
use Rattle.std.specs.Prelude.{ℕ, List, map}
use Rattle.custom_fn.specs.declared.rule.Rule.{Rule}
use Rattle.rule_table.specs.declared.rules.NamedRule.{NamedRule}
use Rattle.rule_table.specs.declared.rules.Rules.{Rules}

abbrev pub named : NamedRule → List ℕ × Rule
named n = (n.word, n.rule)

abbrev pub rules_of : Rules → List (List ℕ × Rule)
rules_of r = map named r.list.items
