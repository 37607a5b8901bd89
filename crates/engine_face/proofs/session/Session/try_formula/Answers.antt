use Rattle.std.proofs.Common.{subst, ℕ, List}
use Rattle.book_model.specs.Answers.{tried_value}
use Rattle.book_model.specs.Operation as op
use Rattle.engine_face.specs.Session.{AsksFor, Told, Wrote}
use Rattle.engine_face.specs.Shown.{fits, shown_value, value_text}
use Rattle.engine_face.proofs.Answering.{asked_for, told, wrote}
use Rattle.engine_face.proofs.session.Session.try_formula.Goals as goal

pub returns-clause-does : goal.returns-clause-does
returns-clause-does c =
    let P : List ℕ → Type 0 = λ word. AsksFor (op.try_formula c.args.sheet word) (λ d. fits (value_text (tried_value d c.args.sheet word)) c.args.room.now) c.args.self.now (record { alloc = c.args.self.now.alloc; engine = c.tried_by-end.new.engine }) c.answer.result in
    subst P c.as_bytes.ensures.value (asked_for (op.try_formula c.args.sheet c.as_bytes.result.now) value_text (λ d. tried_value d c.args.sheet c.as_bytes.result.now) c.args.self.now (record { alloc = c.args.self.now.alloc; engine = c.tried_by-end.new.engine }) c.args.room.now c.answer.new.room c.tried_by-end.result c.answer.result c.tried_by-end.ensures c.answer.ensures.fits)

pub returns-clause-wrote : goal.returns-clause-wrote
returns-clause-wrote c =
    let P : List ℕ → Type 0 = λ word. Wrote (λ d. value_text (tried_value d c.args.sheet word)) c.args.room.now c.answer.new.room c.args.self.now c.answer.result in
    subst P c.as_bytes.ensures.value (wrote (op.try_formula c.args.sheet c.as_bytes.result.now) value_text (λ d. tried_value d c.args.sheet c.as_bytes.result.now) c.args.self.now (record { alloc = c.args.self.now.alloc; engine = c.tried_by-end.new.engine }) c.args.room.now c.answer.new.room c.tried_by-end.result c.answer.result c.tried_by-end.ensures c.answer.ensures.fits)

pub returns-clause-told : goal.returns-clause-told
returns-clause-told c =
    let P : List ℕ → Type 0 = λ word. Told (λ d. shown_value (tried_value d c.args.sheet word)) c.args.shown.now c.answer.new.shown c.args.self.now c.answer.result in
    subst P c.as_bytes.ensures.value (told (op.try_formula c.args.sheet c.as_bytes.result.now) value_text (λ d. tried_value d c.args.sheet c.as_bytes.result.now) c.args.self.now (record { alloc = c.args.self.now.alloc; engine = c.tried_by-end.new.engine }) c.args.room.now c.answer.new.room shown_value c.args.shown.now c.answer.new.shown c.tried_by-end.result c.answer.result c.tried_by-end.ensures c.answer.ensures.fits c.answer.ensures.told)
