use Rattle.std.proofs.Common.{arith, refl, ◌+◌}
use Rattle.std.specs.Fmt.{decimal}
use Rattle.cell_addr.specs.Address.{column_letters}
use Rattle.cell_addr.proofs.Limits.{ROWS-digits}
use Rattle.cell_addr.proofs.Printed.{column_letters-spell, decimal-is_row}
use Rattle.cell_addr.proofs.laws.places_are_written.Goals as goal

pub returns : goal.returns
returns c =
    λ p h. let t = column_letters-spell p.col h.1 in
    (column_letters p.col, decimal (p.row + 1), (refl, t.some, t.few, t.raised, decimal-is_row (p.row + 1) (omega arith) (omega (arith, h.0, ROWS-digits))))
