use Rattle.std.proofs.Common.{arith}
use Rattle.cell_addr.proofs.Limits.{ROWS-digits}
use Rattle.cell_addr.proofs.Printed.{address_of-place_letters, spot_of-place_letters}
use Rattle.cell_addr.proofs.laws.places_are_read_back.Goals as goal

pub returns : goal.returns
returns c =
    λ p h. (address_of-place_letters p.row p.col (omega (arith, h.0, ROWS-digits)) h.1, spot_of-place_letters p.row p.col (omega (arith, h.0, ROWS-digits)) h.1)
