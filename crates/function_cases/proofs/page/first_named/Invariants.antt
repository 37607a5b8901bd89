use Rattle.std.proofs.Common.{◌≡◌, drop}
use Rattle.function_cases.specs.Page.{named_in}
use Rattle.function_cases.proofs.page.first_named.Given as goal

abbrev pub invariant-names : goal.invariant-names
invariant-names l = named_in (drop l.name-index l.names) l.word ≡ named_in l.names l.word
