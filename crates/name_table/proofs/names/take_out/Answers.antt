-- The sheet of a number is taken out, and the list stays proper.
use Rattle.std.proofs.Common.{◌∙◌, sym, ap, subst, option_map}
use Rattle.cell_addr.specs.Sheets.{AreSheets}
use Rattle.name_table.proofs.SheetEntries.{taken-out, sheets-left, lookup-name}
use Rattle.name_table.proofs.names.take_out.Goals as goal

pub returns-in_err-index-clause-proper : goal.returns-in_err-index-clause-proper
returns-in_err-index-clause-proper c =
    subst AreSheets (sym (c.in_err-index.ensures.entries ∙ taken-out c.args.sheets.now.entries c.args.id c.requires.0)) (sheets-left c.args.sheets.now.entries c.args.id c.requires)

pub returns-in_err-index-clause-name : goal.returns-in_err-index-clause-name
returns-in_err-index-clause-name c = ap (option_map (λ r. r.1)) c.from_residual.ensures ∙ c.in_err-index.ensures.value ∙ lookup-name c.args.sheets.now.entries c.args.id

pub returns-in_err-index-clause-rest : goal.returns-in_err-index-clause-rest
returns-in_err-index-clause-rest c = c.in_err-index.ensures.entries ∙ taken-out c.args.sheets.now.entries c.args.id c.requires.0

pub returns-clause-proper : goal.returns-clause-proper
returns-clause-proper c =
    subst AreSheets (sym (c.in_ok-index.ensures.entries ∙ taken-out c.args.sheets.now.entries c.args.id c.requires.0)) (sheets-left c.args.sheets.now.entries c.args.id c.requires)

pub returns-clause-name : goal.returns-clause-name
returns-clause-name c = c.in_ok-index.ensures.value ∙ lookup-name c.args.sheets.now.entries c.args.id

pub returns-clause-rest : goal.returns-clause-rest
returns-clause-rest c = c.in_ok-index.ensures.entries ∙ taken-out c.args.sheets.now.entries c.args.id c.requires.0
