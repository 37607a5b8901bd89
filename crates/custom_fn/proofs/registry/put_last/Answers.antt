use Rattle.std.proofs.Common.{◌≡◌, ◌∙◌, sym, ap, subst, [], ◌∷◌, ◌++◌, None}
use Rattle.std.proofs.lemmas.List.Elements.{All-push}
use Rattle.indexmap.proofs.CallerLemmas.{insert_entry-new}
use Rattle.cell_addr.specs.Sheets.{same_name}
use Rattle.folded_key.specs.declared.key.FoldedKey.TheVariants.{Own}
use Rattle.custom_fn.specs.Custom.{name_of}
use Rattle.folded_key.specs.Key.{text_of}
use Rattle.custom_fn.specs.internal.Keyed.{AreKeyed, under}
use Rattle.custom_fn.proofs.registry.put_last.Goals as goal

-- the function stands last, under its name
pub returns-clause-ok : goal.returns-clause-ok
returns-clause-ok g c =
    let named = c.in_ok-name.ensures ∙ c.name.ensures in
    c.in_ok-insert.ensures.entries
    ∙ insert_entry-new (λ a b. same_name (text_of a) (text_of b)) c.args.customs.now (Own c.in_ok-name.name) c.args.custom
    (subst (λ n. under n c.args.customs.now.entries ≡ None) (sym named) c.requires.new)
    ∙ ap (λ n. c.args.customs.now.entries ++ (Own n, c.args.custom) ∷ []) named

pub returns-clause-keyed : goal.returns-clause-keyed
returns-clause-keyed g c =
    subst AreKeyed (sym (returns-clause-ok g c)) (All-push (λ e. text_of e.0 ≡ name_of e.1) c.args.customs.now.entries (Own (name_of c.args.custom), c.args.custom) c.requires.keyed (λ i. name_of c.args.custom))
