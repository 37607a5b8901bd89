use Rattle.cell_addr.proofs.Printed.{column_of-column_letters}
use Rattle.cell_addr.proofs.laws.columns_are_read_back.Goals as goal

pub returns : goal.returns
returns c = λ col h. column_of-column_letters col h
