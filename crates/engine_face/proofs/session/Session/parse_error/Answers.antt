use Rattle.std.proofs.Common.{refl, subst, sym, true}
use Rattle.book_engine.specs.Formulas.{TellsWrong, untold_cause}
use Rattle.engine_face.specs.Areas.{SaysWrong, wrong_row}
use Rattle.engine_face.specs.Session.{Finds, Tells}
use Rattle.engine_face.specs.declared.status.Status.{Status}
use Rattle.engine_face.proofs.Finding.{found_end, holds_end}
use Rattle.engine_face.proofs.session.Session.parse_error.Goals as goal

pub returns-clause-does : goal.returns-clause-does
returns-clause-does c =
    let P : Status → Type 0 = Finds (λ d. untold_cause d.book c.args.sheet c.args.text.now) (λ d. true) c.args.self.now c.args.self.now in
    subst P (sym c.tell_wrong.ensures.status) (found_end (λ d. untold_cause d.book c.args.sheet c.args.text.now) (λ d. TellsWrong c.args.text.now) c.args.self.now c.args.self.now (λ d stands. stands) c.parse_error.result c.parse_error.ensures)

pub returns-clause-told : goal.returns-clause-told
returns-clause-told c =
    let P : Status → Type 0 = Tells (λ d. SaysWrong c.args.text.now) c.args.part.now c.tell_wrong.new.part c.args.self.now in
    subst P (sym c.tell_wrong.ensures.status) (holds_end (λ d. untold_cause d.book c.args.sheet c.args.text.now) (λ d. TellsWrong c.args.text.now) c.args.self.now c.args.self.now (λ d stands. stands) wrong_row (λ d. SaysWrong c.args.text.now) (λ d found tells. (found, tells, refl)) c.args.part.now c.tell_wrong.new.part c.parse_error.result c.parse_error.ensures c.tell_wrong.ensures.told)
