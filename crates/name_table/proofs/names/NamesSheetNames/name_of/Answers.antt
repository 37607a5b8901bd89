-- The name that is looked up is the one that the list has.
use Rattle.std.proofs.Common.{◌∙◌}
use Rattle.name_table.proofs.SheetEntries.{lookup-name}
use Rattle.name_table.proofs.names.NamesSheetNames.name_of.Goals as goal

pub returns : goal.returns
returns c = c.get.ensures.value ∙ lookup-name c.args.self.now.sheets.entries c.args.id
