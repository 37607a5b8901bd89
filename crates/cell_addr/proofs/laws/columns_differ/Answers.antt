use Rattle.std.proofs.Common.{◌≡◌, ◌∙◌, sym, ap, Some}
use Rattle.cell_addr.specs.Address.{column_of}
use Rattle.cell_addr.proofs.Printed.{column_of-column_letters}
use Rattle.cell_addr.proofs.laws.columns_differ.Goals as goal

pub returns : goal.returns
returns c =
    λ a b h g e. let same : Some a ≡ Some b = sym (column_of-column_letters a h) ∙ ap column_of e ∙ column_of-column_letters b g in cc
