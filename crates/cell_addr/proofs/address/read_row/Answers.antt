use Rattle.std.proofs.Common.{◌≡◌, ◌∙◌, sym, ap, arith, ◌-◌, Some, None}
use Rattle.digits.specs.Digits.{value}
use Rattle.std.proofs.lemmas.Bool.{cond-true}
use Rattle.cell_addr.proofs.Rows.{value_of_row}
use Rattle.cell_addr.proofs.address.read_row.Goals as goal

pub returns-then-is_row : goal.returns-then-is_row
returns-then-is_row c =
    let row = sym c.is_row.ensures ∙ c.if-is_row.true in
    let most = value_of_row c.args.text.now row in
    let number : c.saturating_sub.result ≡ value c.args.text.now - 1 = omega arith in
    ap (λ n. Some n) number ∙ sym (cond-true _ (Some (value c.args.text.now - 1)) None row)
