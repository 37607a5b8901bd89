use Rattle.std.proofs.Common.{◌≡◌, ◌∙◌, ◌-◌, ◌+◌, ◌<◌, sym, ap, arith, length, get_or, map, drop, None}
use Rattle.name_table.specs.Drafts.{names_drafted}
use Rattle.name_table.specs.Scopes.{key_of}
use Rattle.kept_book.specs.Change.{names_with, with_id}
use Rattle.kept_book.specs.Kept.{name_change}
use Rattle.kept_book.specs.declared.part.NameChange.{NameChange}
use Rattle.kept_book.specs.internal.Stepping.{of_side}
use Rattle.kept_book.proofs.ChangesInOrder.{known-at, names-at}
use Rattle.kept_book.proofs.renaming.put_names.Goals as goal

abbrev none : NameChange
none = record { scope = None; word = 0; before = None; after = None }

pub loop-index-preserved : goal.loop-index-preserved
loop-index-preserved c =
    let i = c.loop-index.index - 1 in
    let cs = c.args.changes.now in
    let e = get_or cs i none in
    let it = c.loop-index.invariant in
    let last : c.loop-index.index ≡ i + 1 = omega (arith, c.loop-index-test.true) in
    let below : i < length cs = omega (arith, c.loop-index-test.true, c.loop-index.auto.index) in
    record {
      names = λ m.
          c.in_ok-set.ensures.names m ∙ ap (λ id. with_id (key_of e.scope e.word) id (names_drafted c.loop-index.draft m)) c.id_on.ensures
          ∙ ap (with_id (key_of e.scope e.word) (of_side c.args.side (e.before, e.after))) (it.names m ∙ ap (λ n. names_with (of_side c.args.side) (map name_change (drop n cs)) (names_drafted c.args.draft.now m)) last)
          ∙ sym (ap (λ es. names_with (of_side c.args.side) es (names_drafted c.args.draft.now m)) (names-at cs i none below));
      known = λ words known before. c.in_ok-set.ensures.known words (known-at words cs i none known below) (it.known words known before);
      sheets = c.set.ensures.sheets ∙ it.sheets;
    }
