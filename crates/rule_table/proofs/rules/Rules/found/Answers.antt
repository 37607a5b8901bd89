use Rattle.std.proofs.Common.{◌∙◌, ap, option_map}
use Rattle.rule_table.specs.Rules.{named}
use Rattle.rule_table.proofs.Found.{found-named, mapped-twice}
use Rattle.rule_table.proofs.rules.Rules.found.Goals as goal

pub returns : goal.returns
returns c = mapped-twice named (λ r. r.now) c.first.result ∙ ap (option_map named) c.first.ensures ∙ found-named c.args.word.now c.args.self.now.list.items
