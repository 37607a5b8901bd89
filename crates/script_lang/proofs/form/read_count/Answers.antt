-- Seven digits spell no greater number than the limit.
use Rattle.std.proofs.Common.{◌≡◌, ◌∙◌, sym, ap, arith, Some, None}
use Rattle.std.proofs.lemmas.Bool.{cond-true}
use Rattle.digits.specs.Digits.{value}
use Rattle.script_lang.proofs.FieldForms.{value_of_count}
use Rattle.script_lang.proofs.form.read_count.Goals as goal

pub returns-then-is_count : goal.returns-then-is_count
returns-then-is_count c =
    let count = sym c.is_count.ensures ∙ c.if-is_count.true in
    let most = value_of_count c.args.field.now count in
    let number : c.value_at_most.result ≡ value c.args.field.now = omega arith in
    ap (λ n. Some n) number ∙ sym (cond-true _ (Some (value c.args.field.now)) None count)
