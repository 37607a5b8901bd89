use Rattle.std.proofs.Common.{◌≡◌, subst, Vec, Global}
use Rattle.cell_addr.specs.declared.place.Place.{Place}
use Rattle.book_model.specs.Operation as op
use Rattle.book_model.specs.Refusals.{cause}
use Rattle.book_model.specs.Workbook.{State}
use Rattle.session_questions.specs.Areas.{cyclic_on_sheet}
use Rattle.session_questions.specs.Turns.{Answered}
use Rattle.book_engine.specs.Engine.{StandsFor}
use Rattle.book_engine.proofs.KeptLine.{line_kept}
use Rattle.book_engine.proofs.engine.Engine.on_cycle.Goals as goal

pub invariant_of-self : goal.invariant_of-self
invariant_of-self g c = record { fits = c.on_cycle.ensures.fits; follow = c.on_cycle.ensures.follow (g.C.Customs.customs c.args.self.now.customs) c.args.self.now.day c.args.self.now.follow }

pub returns-clause-line : goal.returns-clause-line
returns-clause-line g c = line_kept c.args.self.now.parts.session.book.lazy.line c.on_cycle.new.parts.session.book.lazy.line c.on_cycle.ensures.line

pub returns-clause-answered : goal.returns-clause-answered
unfolding StandsFor
returns-clause-answered g c = λ d same.
    let e = c.args.self.now in
    subst (λ (x : State). Answered (cause (op.clear_sheet c.args.sheet) x) (λ (places : Vec Place Global). places.items ≡ cyclic_on_sheet c.args.sheet x) c.on_cycle.result) same (c.on_cycle.ensures.answered (g.C.Customs.customs e.customs) e.day)
