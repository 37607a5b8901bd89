use Rattle.std.proofs.Common.{◌≡◌, ◌<◌, ◌∙◌, ap, sym, subst, length, chars, rules, IfOk}
use Rattle.cell_value.specs.Scalar.{made_text}
use Rattle.func_text.specs.Arguments.{made}
use Rattle.func_text.proofs.Replacing.{replaced_all-none, replaced_all-some}
use Rattle.func_text.proofs.substitute.replaced_all.Goals as goal

pub returns-in_ok-from_str : goal.returns-in_ok-from_str
returns-in_ok-from_str c =
    let none : length c.args.old.now ≡ 0 = search rules in
    c.made_text.ensures ∙ ap made_text c.in_ok-from_str.ensures
    ∙ sym (replaced_all-none c.args.which c.args.old.now (chars c.args.new.now) c.args.text.now none c.utf8.text)

pub returns-else-is_empty : goal.returns-else-is_empty
returns-else-is_empty c =
    let some : 0 < length c.args.old.now = search rules in
    subst (λ xs. IfOk c.replaced.result (λ value. value ≡ made xs)) (replaced_all-some c.args.which c.args.old.now (chars c.args.new.now) (chars c.args.text.now) c.utf8.old some) c.replaced.ensures
