use Rattle.cell_addr.proofs.Spots.{sheet-quoted}
use Rattle.cell_addr.proofs.sheet_name.sheet_part.Goals as goal

pub returns-in-Some : goal.returns-in-Some
returns-in-Some c = sheet-quoted c.args.text.now _ _ _ c.in-Some.ensures c.quoted_text.ensures
