use Rattle.std.proofs.Common.{subst, ℕ, List}
use Rattle.book_model.specs.Answers.{name_value_of}
use Rattle.book_model.specs.Operation as op
use Rattle.engine_face.specs.Session.{AsksFor, Told, Wrote}
use Rattle.engine_face.specs.Shown.{fits, shown_value, value_text}
use Rattle.engine_face.proofs.Answering.{asked_for, told, wrote}
use Rattle.engine_face.proofs.session.Session.name_value.Goals as goal

pub returns-clause-does : goal.returns-clause-does
returns-clause-does c =
    let P : List ℕ → Type 0 = λ word. AsksFor (op.name_value word c.args.sheet) (λ d. fits (value_text (name_value_of d word c.args.sheet)) c.args.room.now) c.args.self.now (record { alloc = c.args.self.now.alloc; engine = c.name_value_by-end.new.engine }) c.answer.result in
    subst P c.as_bytes.ensures.value (asked_for (op.name_value c.as_bytes.result.now c.args.sheet) value_text (λ d. name_value_of d c.as_bytes.result.now c.args.sheet) c.args.self.now (record { alloc = c.args.self.now.alloc; engine = c.name_value_by-end.new.engine }) c.args.room.now c.answer.new.room c.name_value_by-end.result c.answer.result c.name_value_by-end.ensures c.answer.ensures.fits)

pub returns-clause-wrote : goal.returns-clause-wrote
returns-clause-wrote c =
    let P : List ℕ → Type 0 = λ word. Wrote (λ d. value_text (name_value_of d word c.args.sheet)) c.args.room.now c.answer.new.room c.args.self.now c.answer.result in
    subst P c.as_bytes.ensures.value (wrote (op.name_value c.as_bytes.result.now c.args.sheet) value_text (λ d. name_value_of d c.as_bytes.result.now c.args.sheet) c.args.self.now (record { alloc = c.args.self.now.alloc; engine = c.name_value_by-end.new.engine }) c.args.room.now c.answer.new.room c.name_value_by-end.result c.answer.result c.name_value_by-end.ensures c.answer.ensures.fits)

pub returns-clause-told : goal.returns-clause-told
returns-clause-told c =
    let P : List ℕ → Type 0 = λ word. Told (λ d. shown_value (name_value_of d word c.args.sheet)) c.args.shown.now c.answer.new.shown c.args.self.now c.answer.result in
    subst P c.as_bytes.ensures.value (told (op.name_value c.as_bytes.result.now c.args.sheet) value_text (λ d. name_value_of d c.as_bytes.result.now c.args.sheet) c.args.self.now (record { alloc = c.args.self.now.alloc; engine = c.name_value_by-end.new.engine }) c.args.room.now c.answer.new.room shown_value c.args.shown.now c.answer.new.shown c.name_value_by-end.result c.answer.result c.name_value_by-end.ensures c.answer.ensures.fits c.answer.ensures.told)
