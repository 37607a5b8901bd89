use Rattle.std.proofs.Common.{◌∙◌, ap}
use Rattle.std.specs.Option.{is_some}
use Rattle.name_table.specs.Listed.{listed}
use Rattle.session_operations.proofs.SheetNames.{has-number}
use Rattle.session_operations.proofs.parts.Parts.is_named.Goals as goal

pub returns : goal.returns
returns c = c.is_some.ensures ∙ ap is_some c.id_of.ensures ∙ has-number (listed c.args.self.now.session.book.names) c.args.name.now
