use Rattle.std.proofs.Common.{subst, [], option_map, unwrap_or}
use Rattle.cell_addr.specs.Sheets.{AreSheets}
use Rattle.name_table.proofs.draft.NameDraft.remove_sheet.Goals as goal

pub take_out-requires : goal.take_out-requires
take_out-requires c = subst (λ s. AreSheets (unwrap_or (option_map (λ x. x.entries) s) [])) c.in-Some.is c.copy_sheets.new.self.proper
