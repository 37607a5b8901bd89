use Rattle.std.proofs.Common.{◌∙◌, ap, refl, subst, sym, Some, ◌∷◌, []}
use Rattle.std.proofs.lemmas.List.{map-append}
use Rattle.kept_book.specs.Kept.{change_of, changes_of}
use Rattle.kept_steps.specs.declared.entry.Entry.{Entry}
use Rattle.kept_steps.specs.internal.Noted.{Notes}
use Rattle.kept_steps.proofs.noting.note.Goals as goal

pub returns-in-Some : goal.returns-in-Some
returns-in-Some c =
    let grown : Entry = record { parts = c.push_reserved.new.self } in
    subst (λ b. Notes (change_of c.args.part) b c.args.steps.now (Some grown) c.forget_undone.new.self) (sym c.in-Some.is) (
      (grown, refl, ap changes_of c.push_reserved.ensures.items ∙ map-append change_of c.in-Some.entry.parts.items (c.args.part ∷ [])),
      ap (λ h. h.done) c.forget_undone.ensures,
      ap (λ h. h.undone) c.forget_undone.ensures,
      ap (λ h. h.limit) c.forget_undone.ensures,
    )
