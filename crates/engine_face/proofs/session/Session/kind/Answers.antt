use Rattle.std.proofs.Common.{◌≡◌, ap, subst, sym, true}
use Rattle.std.specs.FinMap as fin
use Rattle.cell_addr.specs.declared.place.Place.{Place}
use Rattle.book_model.specs.Operation as op
use Rattle.book_model.specs.Refusals.{cause}
use Rattle.book_model.specs.Workbook.{State}
use Rattle.book_engine.specs.Areas.{kind_of}
use Rattle.book_engine.specs.Kind.{Kind}
use Rattle.engine_face.specs.Areas.{kind_at, kind_number}
use Rattle.engine_face.specs.Session.{Finds, Told}
use Rattle.engine_face.specs.declared.status.Status.{Status}
use Rattle.engine_face.proofs.Finding.{found_end, shown_end}
use Rattle.engine_face.proofs.session.Session.kind.Goals as goal

abbrev Says : Place → State → Kind → Type 0
Says at d kind = kind ≡ kind_of (fin.get d.book.cells at)

pub returns-clause-does : goal.returns-clause-does
returns-clause-does c =
    let P : Status → Type 0 = Finds (cause (op.content c.args.at)) (λ d. true) c.args.self.now c.args.self.now in
    subst P (sym c.tell_kind.ensures.status) (found_end (cause (op.content c.args.at)) (Says c.args.at) c.args.self.now c.args.self.now (λ d stands. stands) c.kind.result c.kind.ensures)

pub returns-clause-told : goal.returns-clause-told
returns-clause-told c =
    let P : Status → Type 0 = Told (kind_at c.args.at) c.args.kind.now c.tell_kind.new.kind c.args.self.now in
    subst P (sym c.tell_kind.ensures.status) (shown_end (cause (op.content c.args.at)) (Says c.args.at) c.args.self.now c.args.self.now (λ d stands. stands) kind_number (kind_at c.args.at) (λ d kind is. ap kind_number is) c.args.kind.now c.tell_kind.new.kind c.kind.result c.kind.ensures c.tell_kind.ensures.told)
