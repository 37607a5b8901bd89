-- A weight below all bands has no price.
use Rattle.std.proofs.Common.{◌≡◌, ap, subst, sym, ℤ, false}
use Rattle.std.specs.Prelude.{int_le}
use Rattle.std.specs.List.{AllWithin}
use Rattle.std.proofs.lemmas.Int.{to_z-of_z}
use Rattle.custom_fn.specs.Answer.{banded}
use Rattle.tariffs.specs.declared.tables.TheConstants.{POSTAGE}
use Rattle.tariffs.proofs.TableCases.{no-price}
use Rattle.tariffs.proofs.answers.price.Goals as goal

pub returns-in-0 : goal.returns-in-0
returns-in-0 c =
    let same = to_z-of_z _ _ c.ranges.weight in
    let behind = subst (λ (z : ℤ). AllWithin (λ (row : ℤ × ℤ). int_le row.0 z ≡ false) POSTAGE 0 4) same (rw c.in-0.is at c.begun.ensures.behind) in
    ap banded (sym (no-price c.args.weight behind))
