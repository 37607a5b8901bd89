-- The last change is made before the others.
use Rattle.std.proofs.Common.{◌∙◌, sym, ap, subst, Some}
use Rattle.name_table.specs.Drafts.{with_changes}
use Rattle.name_table.specs.Named.{names_of}
use Rattle.name_table.specs.internal.Fresh.{AddsNone}
use Rattle.name_table.proofs.DraftedNames.{adds-none-still, changes-last}
use Rattle.name_table.proofs.names.Names.place.Goals as goal

pub change-requires : goal.change-requires
change-requires c = λ h given. c.names.invariant.room c.in-Some.key h (c.in-Some.ensures.value ∙ ap Some given)

pub names-preserved : goal.names-preserved
names-preserved c =
    let it = c.names.invariant in
    let now = names_of c.names.self in
    let left = c.pop_last.new.self in
    let made = c.change.ensures.names in
    record {
      made = ap (with_changes left.entries) made ∙ sym (changes-last left.entries (c.in-Some.key, c.in-Some.holder) now) ∙ sym (ap (λ es. with_changes es now) c.in-Some.ensures.removal) ∙ it.made;
      room = subst (AddsNone left) (sym made) (adds-none-still c.names.changes left c.in-Some.key c.in-Some.holder now c.in-Some.ensures.updates.0 it.room);
      words = c.change.ensures.words ∙ it.words;
      sheets = c.change.ensures.sheets ∙ it.sheets;
    }
