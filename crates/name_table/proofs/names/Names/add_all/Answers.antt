-- The next name is added.
use Rattle.std.proofs.Common.{◌∙◌, ◌+◌, ◌<◌, sym, ap, subst, drop, get_or, length}
use Rattle.std.proofs.lemmas.List.{drop_more}
use Rattle.name_table.specs.Named.{names_of, words_of}
use Rattle.name_table.specs.internal.Fresh.{with_added}
use Rattle.name_table.proofs.DraftedNames.{known-at, no_name, others-kept}
use Rattle.name_table.proofs.names.Names.add_all.Goals as goal

pub add-requires : goal.add-requires
add-requires c =
    let i = c.names.key-index in
    let list = c.args.list.now in
    record { known = subst (λ ws. (get_or list i no_name).0.word < length ws) (sym c.names.invariant.words) (known-at (length (words_of c.args.self.now)) list i no_name c.requires c.names-test.true) }

pub names-preserved : goal.names-preserved
names-preserved c =
    let i = c.names.key-index in
    let list = c.args.list.now in
    let now = names_of c.names.self in
    let it = c.names.invariant in
    let made = c.in_ok-add.ensures.ok in
    record {
      added = ap (with_added (drop (i + 1) list)) made ∙ sym (ap (λ es. with_added es now) (drop_more list i no_name c.names-test.true)) ∙ it.added;
      others = others-kept list i no_name (names_of c.args.self.now) now (names_of c.add.new.self) c.names-test.true it.others made;
      words = c.add.ensures.words ∙ it.words;
      sheets = c.add.ensures.sheets ∙ it.sheets;
    }
