use Rattle.std.proofs.Common.{◌≡◌, ap, Ok}
use Rattle.std.specs.declared.cmp.Ordering.TheVariants.{Equal}
use Rattle.cell_addr.specs.Text.{folded}
use Rattle.cell_value.specs.Scalar.{text_order}
use Rattle.cell_value.proofs.TotalOrder.{bytes_equal}
use Rattle.cell_value.proofs.laws.texts_are_equal_when_folded.Goals as goal

pub returns : goal.returns
returns c = λ a b.
    let e = bytes_equal (folded a) (folded b) in
    (λ h. e.0 (let o : text_order a b ≡ Equal = cc in o), λ h. ap Ok (e.1 h))
