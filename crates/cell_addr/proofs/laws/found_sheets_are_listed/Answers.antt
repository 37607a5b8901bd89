use Rattle.cell_addr.proofs.Listed.{listed-id_in, listed-name_in}
use Rattle.cell_addr.proofs.laws.found_sheets_are_listed.Goals as goal

pub returns : goal.returns
returns c = λ sheets id name. (listed-id_in sheets name id, listed-name_in sheets id name)
