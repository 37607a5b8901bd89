use Rattle.place_lines.proofs.Places.{area_returns, block_returns, one_block, one_place, place_returns, spot_returns}
use Rattle.place_lines.proofs.laws.spots_return.Goals as goal

pub returns : goal.returns
returns c = λ lines.
    (one_place lines, place_returns lines, spot_returns lines, one_block lines, block_returns lines, area_returns lines)
