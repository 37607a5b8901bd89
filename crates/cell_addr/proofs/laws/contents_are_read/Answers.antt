use Rattle.std.proofs.Common.{◌∙◌, ap}
use Rattle.cell_addr.specs.Quoted.{quoted}
use Rattle.cell_addr.proofs.Quoted.{quoted-doubled, quoted-written}
use Rattle.cell_addr.proofs.laws.contents_are_read.Goals as goal

pub returns : goal.returns
returns c =
    λ quote text content rest. (λ e. quoted-written quote text content rest e, λ w. ap (quoted quote) w.0 ∙ quoted-doubled quote content rest w.1)
