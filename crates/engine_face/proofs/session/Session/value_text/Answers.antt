use Rattle.std.proofs.Common.{length}
use Rattle.book_model.specs.Operation as op
use Rattle.book_model.specs.Answers.{value_of}
use Rattle.cell_value.specs.Scalar.{shown_text}
use Rattle.engine_face.proofs.Answering.{asked_for, told, wrote}
use Rattle.engine_face.proofs.session.Session.value_text.Goals as goal

pub returns-clause-does : goal.returns-clause-does
returns-clause-does c = asked_for (op.value c.args.at) (λ t. t) (λ d. shown_text (value_of d c.args.at)) c.args.self.now (record { alloc = c.args.self.now.alloc; engine = c.shown_by-end.new.engine }) c.args.room.now c.answer_text.new.room c.shown_by-end.result c.answer_text.result c.shown_by-end.ensures c.answer_text.ensures.fits

pub returns-clause-wrote : goal.returns-clause-wrote
returns-clause-wrote c = wrote (op.value c.args.at) (λ t. t) (λ d. shown_text (value_of d c.args.at)) c.args.self.now (record { alloc = c.args.self.now.alloc; engine = c.shown_by-end.new.engine }) c.args.room.now c.answer_text.new.room c.shown_by-end.result c.answer_text.result c.shown_by-end.ensures c.answer_text.ensures.fits

pub returns-clause-told : goal.returns-clause-told
returns-clause-told c = told (op.value c.args.at) (λ t. t) (λ d. shown_text (value_of d c.args.at)) c.args.self.now (record { alloc = c.args.self.now.alloc; engine = c.shown_by-end.new.engine }) c.args.room.now c.answer_text.new.room (length) c.args.needed.now c.answer_text.new.needed c.shown_by-end.result c.answer_text.result c.shown_by-end.ensures c.answer_text.ensures.fits c.answer_text.ensures.told
