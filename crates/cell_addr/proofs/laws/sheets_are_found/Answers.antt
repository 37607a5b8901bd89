use Rattle.cell_addr.proofs.Listed.{id_in-listed, name_in-listed}
use Rattle.cell_addr.proofs.laws.sheets_are_found.Goals as goal

pub returns : goal.returns
returns c =
    λ sheets id name other apart listed same. (id_in-listed sheets (id, name) other apart listed same, name_in-listed sheets (id, name) apart listed)
