use Rattle.std.proofs.Common.{length}
use Rattle.book_model.specs.Operation as op
use Rattle.book_model.specs.Answers.{content_text}
use Rattle.engine_face.proofs.Answering.{asked_for, told, wrote}
use Rattle.engine_face.proofs.session.Session.content.Goals as goal

pub returns-clause-does : goal.returns-clause-does
returns-clause-does c = asked_for (op.content c.args.at) (λ t. t) (λ d. content_text d c.args.at) c.args.self.now (record { alloc = c.args.self.now.alloc; engine = c.content.new.self }) c.args.room.now c.answer_text.new.room c.content.result c.answer_text.result c.content.ensures.does c.answer_text.ensures.fits

pub returns-clause-wrote : goal.returns-clause-wrote
returns-clause-wrote c = wrote (op.content c.args.at) (λ t. t) (λ d. content_text d c.args.at) c.args.self.now (record { alloc = c.args.self.now.alloc; engine = c.content.new.self }) c.args.room.now c.answer_text.new.room c.content.result c.answer_text.result c.content.ensures.does c.answer_text.ensures.fits

pub returns-clause-told : goal.returns-clause-told
returns-clause-told c = told (op.content c.args.at) (λ t. t) (λ d. content_text d c.args.at) c.args.self.now (record { alloc = c.args.self.now.alloc; engine = c.content.new.self }) c.args.room.now c.answer_text.new.room (length) c.args.needed.now c.answer_text.new.needed c.content.result c.answer_text.result c.content.ensures.does c.answer_text.ensures.fits c.answer_text.ensures.told
