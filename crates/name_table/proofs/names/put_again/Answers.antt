-- A listed sheet gets another name, and the list stays proper.
use Rattle.std.proofs.Common.{◌∙◌, sym, subst}
use Rattle.cell_addr.specs.Sheets.{AreSheets}
use Rattle.name_table.proofs.SheetEntries.{put-again, sheets-renamed}
use Rattle.name_table.proofs.names.put_again.Goals as goal

pub returns-in_err-insert-clause-proper : goal.returns-in_err-insert-clause-proper
returns-in_err-insert-clause-proper c = subst AreSheets (sym c.in_err-insert.ensures.err) c.requires.proper

pub returns-clause-proper : goal.returns-clause-proper
returns-clause-proper c =
    subst AreSheets
    (sym (c.in_ok-insert.ensures.entries ∙ put-again c.args.sheets.now.entries c.args.id c.args.name c.requires.proper.0 c.requires.listed))
    (sheets-renamed c.args.sheets.now.entries c.args.id c.args.name c.requires.proper c.requires.free)

pub returns-clause-ok : goal.returns-clause-ok
returns-clause-ok c = c.in_ok-insert.ensures.entries ∙ put-again c.args.sheets.now.entries c.args.id c.args.name c.requires.proper.0 c.requires.listed
