use Rattle.std.proofs.Common.{◌∙◌}
use Rattle.cell_addr.proofs.Entries.{lookup-from_entries}
use Rattle.name_table.specs.Scopes.{key_of}
use Rattle.name_table.proofs.KeyOrder.{key_cmp-IsTotalOrder}
use Rattle.name_table.proofs.names.Names.holder.Goals as goal

pub returns : goal.returns
returns c = c.copied.ensures ∙ c.get.ensures.value ∙ lookup-from_entries key_cmp-IsTotalOrder c.args.self.now.holders.entries (key_of c.args.scope c.args.word)
