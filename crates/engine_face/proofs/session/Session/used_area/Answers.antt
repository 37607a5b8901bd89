use Rattle.std.proofs.Common.{refl, subst, sym, true}
use Rattle.book_model.specs.Operation as op
use Rattle.book_model.specs.Refusals.{cause}
use Rattle.book_engine.specs.Areas.{IsUsedArea}
use Rattle.engine_face.specs.Areas.{SaysUsed, used_row}
use Rattle.engine_face.specs.Session.{Finds, Tells}
use Rattle.engine_face.specs.declared.status.Status.{Status}
use Rattle.engine_face.proofs.Finding.{found_end, holds_end}
use Rattle.engine_face.proofs.session.Session.used_area.Goals as goal

pub returns-clause-does : goal.returns-clause-does
returns-clause-does c =
    let P : Status → Type 0 = Finds (cause (op.clear_sheet c.args.sheet)) (λ d. true) c.args.self.now c.args.self.now in
    subst P (sym c.tell_used.ensures.status) (found_end (cause (op.clear_sheet c.args.sheet)) (λ d. IsUsedArea c.args.sheet d.book) c.args.self.now c.args.self.now (λ d stands. stands) c.used_area.result c.used_area.ensures)

pub returns-clause-told : goal.returns-clause-told
returns-clause-told c =
    let P : Status → Type 0 = Tells (λ d. SaysUsed c.args.sheet d.book) c.args.used.now c.tell_used.new.used c.args.self.now in
    subst P (sym c.tell_used.ensures.status) (holds_end (cause (op.clear_sheet c.args.sheet)) (λ d. IsUsedArea c.args.sheet d.book) c.args.self.now c.args.self.now (λ d stands. stands) used_row (λ d. SaysUsed c.args.sheet d.book) (λ d area is. (area, is, refl)) c.args.used.now c.tell_used.new.used c.used_area.result c.used_area.ensures c.tell_used.ensures.told)
