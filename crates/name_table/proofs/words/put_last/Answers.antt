-- A new word stands at the end, and the list of words stays proper.
use Rattle.std.proofs.Common.{◌∙◌, sym, ap, subst, cond, [], ◌∷◌, ◌++◌, map}
use Rattle.cell_addr.specs.Sheets.{same_name}
use Rattle.folded_key.specs.Key.{text_of}
use Rattle.folded_key.specs.declared.key.FoldedKey.TheVariants.{Own}
use Rattle.name_table.specs.Words.{AreWords}
use Rattle.name_table.proofs.WordNumbers.{any-none, map-push, position-map, words-push}
use Rattle.name_table.proofs.words.put_last.Goals as goal

pub returns-clause-ok : goal.returns-clause-ok
returns-clause-ok c =
    let keys = c.args.spellings.now.keys in
    ap (map text_of)
    (c.in_ok-insert.ensures.keys
    ∙ ap (λ b. cond b keys (keys ++ Own c.args.text ∷ []))
    (any-none (λ key. same_name c.args.text (text_of key)) keys (sym (position-map (same_name c.args.text) text_of keys) ∙ c.requires.new)))
    ∙ map-push text_of keys (Own c.args.text)

pub returns-clause-proper : goal.returns-clause-proper
returns-clause-proper c =
    subst AreWords (sym (returns-clause-ok c)) (words-push (map text_of c.args.spellings.now.keys) c.args.text c.requires.proper c.requires.small c.requires.new)
