use Rattle.std.proofs.Common.{◌∙◌, ap, cond, ◌++◌, ◌∷◌, []}
use Rattle.range_table.proofs.Growing.{once_more}
use Rattle.range_table.proofs.table.add_key.Goals as goal

pub returns-in-Ok-clause-keys : goal.returns-in-Ok-clause-keys
returns-in-Ok-clause-keys c = c.in-Ok.ensures.keys ∙ ap (λ t. cond t c.args.keys.now.keys (c.args.keys.now.keys ++ c.args.area ∷ [])) c.requires

pub returns-in-Ok-clause-once : goal.returns-in-Ok-clause-once
returns-in-Ok-clause-once c = once_more c.insert.new.self.keys c.insert.ensures.unique

pub returns-in-Err-clause-once : goal.returns-in-Err-clause-once
returns-in-Err-clause-once c = once_more c.insert.new.self.keys c.insert.ensures.unique
