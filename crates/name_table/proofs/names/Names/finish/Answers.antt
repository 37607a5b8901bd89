use Rattle.std.proofs.Common.{subst, [], option_map, unwrap_or}
use Rattle.cell_addr.specs.Sheets.{AreSheets}
use Rattle.name_table.proofs.names.Names.finish.Goals as goal

pub invariant_of-self : goal.invariant_of-self
invariant_of-self c = record {
  proper = subst (λ s. AreSheets (unwrap_or (option_map (λ x. x.entries) s) [])) c.in-Some.is c.args.begun.draft.proper;
  known = c.place.new.self.known;
}
