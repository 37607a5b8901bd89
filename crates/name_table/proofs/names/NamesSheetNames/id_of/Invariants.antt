use Rattle.std.proofs.Common.{◌≡◌}
use Rattle.cell_addr.specs.Sheets.{id_in}
use Rattle.name_table.proofs.names.NamesSheetNames.id_of.Given as goal

-- none of the sheets gone by has the name
abbrev pub invariant-sheets : goal.invariant-sheets
invariant-sheets l = id_in l.fn.self.sheets.entries l.fn.name ≡ id_in l.id-iterator l.fn.name
