use Rattle.std.proofs.Common.{◌∙◌, ap}
use Rattle.std.specs.Option.{is_some}
use Rattle.name_table.specs.Listed.{listed}
use Rattle.session_operations.proofs.SheetNames.{has-name, some_copied}
use Rattle.session_operations.proofs.parts.Parts.has_sheet.Goals as goal

pub returns : goal.returns
returns c = c.is_some.ensures ∙ some_copied c.name_of.result ∙ ap is_some c.name_of.ensures ∙ has-name (listed c.args.self.now.session.book.names) c.args.sheet
