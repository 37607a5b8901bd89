use Rattle.std.proofs.Common.{subst, [], option_map, unwrap_or}
use Rattle.cell_addr.specs.Sheets.{AreSheets}
use Rattle.name_table.proofs.draft.NameDraft.add_sheet.Goals as goal

pub put_in-requires-clause-proper : goal.put_in-requires-clause-proper
put_in-requires-clause-proper c = subst (λ s. AreSheets (unwrap_or (option_map (λ x. x.entries) s) [])) c.in-Some.is c.copy_sheets.new.self.proper
