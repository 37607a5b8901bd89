use Rattle.std.proofs.Common.{◌≡◌, subst, sym, ℕ}
use Rattle.book_model.specs.Operation as op
use Rattle.book_model.specs.Workbook.{State}
use Rattle.engine_face.specs.Session.{Asks, Told}
use Rattle.engine_face.specs.declared.session.Session.{Session}
use Rattle.engine_face.specs.declared.status.Status.{Status}
use Rattle.engine_face.proofs.Changing.{asked, told_end}
use Rattle.engine_face.proofs.session.Session.add_sheet.Goals as goal

pub returns-clause-does : goal.returns-clause-does
returns-clause-does c =
    let new : Session = record { alloc = c.args.self.now.alloc; engine = c.add_sheet.new.self } in
    let P : Status → Type 0 = Asks (op.add_sheet c.args.name.now) c.args.self.now new in
    subst P (sym c.tell_number.ensures.status) (asked (op.add_sheet c.args.name.now) (λ (d : State) (n : ℕ). n ≡ d.next_sheet) c.args.self.now new c.add_sheet.result c.add_sheet.ensures.does)

pub returns-clause-told : goal.returns-clause-told
returns-clause-told c =
    let new : Session = record { alloc = c.args.self.now.alloc; engine = c.add_sheet.new.self } in
    let P : Status → Type 0 = Told (λ (d : State). d.next_sheet) c.args.number.now c.tell_number.new.number c.args.self.now in
    subst P (sym c.tell_number.ensures.status) (told_end (op.add_sheet c.args.name.now) (λ (d : State). d.next_sheet) (λ (n : ℕ). n) c.args.self.now new c.args.number.now c.tell_number.new.number c.add_sheet.result c.add_sheet.ensures.does c.tell_number.ensures.told)
