use Rattle.std.proofs.Common.{length}
use Rattle.book_model.specs.Operation as op
use Rattle.book_model.specs.Answers.{formula_of}
use Rattle.engine_face.specs.Shown.{text_or_none}
use Rattle.engine_face.proofs.Answering.{asked_for, told, wrote}
use Rattle.engine_face.proofs.session.Session.formula.Goals as goal

pub returns-clause-does : goal.returns-clause-does
returns-clause-does c = asked_for (op.formula c.args.at) (text_or_none) (λ d. formula_of d c.args.at) c.args.self.now (record { alloc = c.args.self.now.alloc; engine = c.formula.new.self }) c.args.room.now c.answer_formula.new.room c.formula.result c.answer_formula.result c.formula.ensures.does c.answer_formula.ensures.fits

pub returns-clause-wrote : goal.returns-clause-wrote
returns-clause-wrote c = wrote (op.formula c.args.at) (text_or_none) (λ d. formula_of d c.args.at) c.args.self.now (record { alloc = c.args.self.now.alloc; engine = c.formula.new.self }) c.args.room.now c.answer_formula.new.room c.formula.result c.answer_formula.result c.formula.ensures.does c.answer_formula.ensures.fits

pub returns-clause-told : goal.returns-clause-told
returns-clause-told c = told (op.formula c.args.at) (text_or_none) (λ d. formula_of d c.args.at) c.args.self.now (record { alloc = c.args.self.now.alloc; engine = c.formula.new.self }) c.args.room.now c.answer_formula.new.room (λ t. length (text_or_none t)) c.args.needed.now c.answer_formula.new.needed c.formula.result c.answer_formula.result c.formula.ensures.does c.answer_formula.ensures.fits c.answer_formula.ensures.told
