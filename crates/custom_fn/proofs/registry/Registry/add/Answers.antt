use Rattle.std.proofs.Common.{◌∙◌, sym, ap, option_map}
use Rattle.custom_fn.specs.Custom.{name_of, rule_of}
use Rattle.custom_fn.specs.Registry.{customs_of, custom_named}
use Rattle.folded_key.specs.Key.{text_of}
use Rattle.custom_fn.specs.internal.Keyed.{under}
use Rattle.custom_fn.proofs.Named.{found-under, none-mapped, missing}
use Rattle.custom_fn.proofs.registry.Registry.add.Goals as goal

-- nothing is found under the name, so nothing stands under it
pub put_last-requires-clause-new : goal.put_last-requires-clause-new
put_last-requires-clause-new g c =
    let entries = c.args.self.now.customs.entries in
    none-mapped (λ x. (name_of x, rule_of x)) (under (name_of c.args.custom) entries)
    (sym (found-under text_of name_of rule_of (name_of c.args.custom) entries c.args.self.now.keyed)
    ∙ ap (λ n. custom_named n (customs_of c.args.self.now)) (sym (c.as_str-else-is_function_word.ensures ∙ c.name-else-is_function_word.ensures))
    ∙ sym c.find.ensures ∙ ap (option_map (λ x. (name_of x.now, rule_of x.now))) (missing c.find.result (sym c.is_some.ensures ∙ c.if-is_some.false)))
