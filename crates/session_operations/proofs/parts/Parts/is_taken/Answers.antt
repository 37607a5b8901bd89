use Rattle.std.proofs.Common.{◌∙◌, sym, ap}
use Rattle.name_table.specs.Listed.{listed}
use Rattle.session_operations.proofs.SheetNames.{is-taken, is_other}
use Rattle.session_operations.proofs.parts.Parts.is_taken.Goals as goal

pub returns-in-Some : goal.returns-in-Some
returns-in-Some c = ap (is_other c.args.sheet) (sym c.in-Some.is ∙ c.id_of.ensures) ∙ is-taken (listed c.args.self.now.session.book.names) c.args.sheet c.args.name.now c.requires.0

pub returns-in-None : goal.returns-in-None
returns-in-None c = ap (is_other c.args.sheet) (sym c.in-None.is ∙ c.id_of.ensures) ∙ is-taken (listed c.args.self.now.session.book.names) c.args.sheet c.args.name.now c.requires.0
