-- What is seen of a custom function: its name and its rule. Source: this project's own.
use Rattle.std.specs.Prelude.{ℕ, List}
use Rattle.custom_fn.specs.declared.custom.Custom.{Custom}
use Rattle.custom_fn.specs.declared.rule.Rule.{Rule}

abbrev pub name_of : {I : _} {D : _} {g : _} → Custom I D g → List ℕ
name_of c = c.name

abbrev pub rule_of : {I : _} {D : _} {g : _} → Custom I D g → Rule
rule_of c = c.rule
