use Rattle.std.proofs.Common.{◌∙◌, sym, ap, option_map}
use Rattle.custom_fn.specs.Custom.{name_of, rule_of}
use Rattle.folded_key.specs.Key.{text_of}
use Rattle.custom_fn.proofs.Named.{found-under}
use Rattle.custom_fn.proofs.registry.Registry.find.Goals as goal

-- nothing stands under the name
pub returns-in_err-index : goal.returns-in_err-index
returns-in_err-index g c =
    ap (option_map (λ x. (name_of x.now, rule_of x.now))) c.from_residual.ensures
    ∙ sym (found-under text_of name_of rule_of c.args.name.now c.args.self.now.customs.entries c.args.self.now.keyed ∙ ap (option_map (λ x. (name_of x, rule_of x))) c.in_err-index.ensures.none)

pub returns-in_err-custom : goal.returns-in_err-custom
returns-in_err-custom g c =
    ap (option_map (λ x. (name_of x.now, rule_of x.now))) c.from_residual-in_err-custom.ensures
    ∙ sym (found-under text_of name_of rule_of c.args.name.now c.args.self.now.customs.entries c.args.self.now.keyed
    ∙ ap (option_map (λ x. (name_of x, rule_of x))) (sym c.in_ok-index.ensures.some ∙ ap (option_map (λ e. e.1)) (sym c.in_err-custom.ensures.entry)))

pub returns : goal.returns
returns g c =
    ap (option_map (λ x. (name_of x, rule_of x))) (ap (option_map (λ e. e.1)) c.in_ok-custom.ensures.entry ∙ c.in_ok-index.ensures.some)
    ∙ sym (found-under text_of name_of rule_of c.args.name.now c.args.self.now.customs.entries c.args.self.now.keyed)
