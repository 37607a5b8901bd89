use Rattle.cell_addr.proofs.Wholes.{wholes-cover_their_lines}
use Rattle.cell_addr.proofs.laws.wholes_cover_their_lines.Goals as goal

pub returns : goal.returns
returns c = wholes-cover_their_lines
