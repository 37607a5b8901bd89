use Rattle.book_model.specs.Operation as op
use Rattle.book_model.specs.Answers.{value_of}
use Rattle.engine_face.specs.Shown.{shown_value, value_text}
use Rattle.engine_face.proofs.Answering.{asked_for, told, wrote}
use Rattle.engine_face.proofs.session.Session.value.Goals as goal

pub returns-clause-does : goal.returns-clause-does
returns-clause-does c = asked_for (op.value c.args.at) (value_text) (λ d. value_of d c.args.at) c.args.self.now (record { alloc = c.args.self.now.alloc; engine = c.value_by-end.new.engine }) c.args.room.now c.answer.new.room c.value_by-end.result c.answer.result c.value_by-end.ensures c.answer.ensures.fits

pub returns-clause-wrote : goal.returns-clause-wrote
returns-clause-wrote c = wrote (op.value c.args.at) (value_text) (λ d. value_of d c.args.at) c.args.self.now (record { alloc = c.args.self.now.alloc; engine = c.value_by-end.new.engine }) c.args.room.now c.answer.new.room c.value_by-end.result c.answer.result c.value_by-end.ensures c.answer.ensures.fits

pub returns-clause-told : goal.returns-clause-told
returns-clause-told c = told (op.value c.args.at) (value_text) (λ d. value_of d c.args.at) c.args.self.now (record { alloc = c.args.self.now.alloc; engine = c.value_by-end.new.engine }) c.args.room.now c.answer.new.room (shown_value) c.args.shown.now c.answer.new.shown c.value_by-end.result c.answer.result c.value_by-end.ensures c.answer.ensures.fits c.answer.ensures.told
