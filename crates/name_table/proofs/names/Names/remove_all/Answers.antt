-- The next name is taken away.
use Rattle.std.proofs.Common.{◌∙◌, ◌+◌, sym, ap, drop}
use Rattle.std.proofs.lemmas.List.{drop_more}
use Rattle.name_table.specs.Drafts.{without}
use Rattle.name_table.specs.Named.{names_of}
use Rattle.name_table.proofs.DraftedNames.{no_name}
use Rattle.name_table.proofs.names.Names.remove_all.Goals as goal

pub names-preserved : goal.names-preserved
names-preserved c =
    let i = c.names.key-index in
    let list = c.args.list.now in
    let it = c.names.invariant in
    record {
      left = ap (without (drop (i + 1) list)) c.remove.ensures.removed ∙ sym (ap (λ es. without es (names_of c.names.self)) (drop_more list i no_name c.names-test.true)) ∙ it.left;
      words = c.remove.ensures.words ∙ it.words;
      sheets = c.remove.ensures.sheets ∙ it.sheets;
    }
