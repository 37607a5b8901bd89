use Rattle.std.proofs.Common.{◌∙◌, ap}
use Rattle.cell_addr.specs.Address.{address_of}
use Rattle.cell_addr.proofs.Addresses.{address_of-append, address_of-parts}
use Rattle.cell_addr.proofs.laws.addresses_are_read.Goals as goal

pub returns : goal.returns
returns c =
    λ text row col. (λ e. address_of-parts text row col e, λ w. ap address_of w.2.0 ∙ address_of-append w.0 w.1 row col w.2.2 w.2.1)
