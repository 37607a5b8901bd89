use Rattle.std.proofs.Common.{◌∙◌, refl, subst, sym, map, List, ℕ, None, Some}
use Rattle.cell_addr.specs.declared.place.Place.{Place}
use Rattle.book_model.specs.Changes.{HaveDistinctPlaces}
use Rattle.book_model.specs.Operation as op
use Rattle.book_engine.specs.Turns.{NoAnswer}
use Rattle.engine_face.specs.Session.{Asks}
use Rattle.engine_face.specs.Status.{status_of_end}
use Rattle.engine_face.specs.Written.{written_cell}
use Rattle.engine_face.specs.declared.session.Session.{Session}
use Rattle.engine_face.specs.declared.status.Status.{Status}
use Rattle.engine_face.proofs.Changing.{asked}
use Rattle.engine_face.proofs.Rising.{are-apart, are-told}
use Rattle.engine_face.proofs.session.Session.write_all.Goals as goal

pub write_all-requires : goal.write_all-requires
write_all-requires c =
    let told = are-told c.args.texts.now c.args.rows.now (Some c.in-Ok-Some.cells.items) (rw (← c.in-Ok-Some.ensures, c.in-Ok-Some.field-0-is) refl) in
    record { distinct = subst HaveDistinctPlaces (sym (c.deref.ensures.value ∙ told.1)) (are-apart c.args.texts.now c.args.rows.now told.0) }

pub returns-in-Ok-Some-clause-does : goal.returns-in-Ok-Some-clause-does
returns-in-Ok-Some-clause-does c = λ written.
    let told = are-told c.args.texts.now c.args.rows.now (Some c.in-Ok-Some.cells.items) (rw (← c.in-Ok-Some.ensures, c.in-Ok-Some.field-0-is) refl) in
    let new : Session = record { alloc = c.args.self.now.alloc; engine = c.write_all.new.self } in
    let P : Status → Type 0 = Asks (op.write_all (map (written_cell c.args.texts.now) c.args.rows.now)) c.args.self.now new in
    let Q : List (Place × List ℕ) → Type 0 = λ cells. Asks (op.write_all cells) c.args.self.now new (status_of_end c.write_all.result) in
    subst P (sym c.of.ensures) (subst Q (c.deref.ensures.value ∙ told.1) (asked (op.write_all c.deref.result.now) NoAnswer c.args.self.now new c.write_all.result c.write_all.ensures.does))

pub returns-in-Ok-Some-clause-no_table : goal.returns-in-Ok-Some-clause-no_table
returns-in-Ok-Some-clause-no_table c = λ no.
    absurd (no (are-told c.args.texts.now c.args.rows.now (Some c.in-Ok-Some.cells.items) (rw (← c.in-Ok-Some.ensures, c.in-Ok-Some.field-0-is) refl)).0)

pub returns-in-Ok-None-clause-does : goal.returns-in-Ok-None-clause-does
returns-in-Ok-None-clause-does c = λ written. are-told c.args.texts.now c.args.rows.now None (rw (← c.in-Ok-None.ensures, c.in-Ok-None.field-0-is) refl) written
