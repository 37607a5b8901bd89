use Rattle.std.proofs.Common.{◌≡◌, ap, subst, sym, ℕ, length, Option, Some}
use Rattle.book_values.specs.Names.{key_of}
use Rattle.book_model.specs.Operation as op
use Rattle.book_model.specs.Refusals.{cause}
use Rattle.book_engine.specs.Areas.{name_text_of}
use Rattle.engine_face.specs.Lists.{text_of_name}
use Rattle.engine_face.specs.Session.{Finds, Told, Wrote}
use Rattle.engine_face.specs.Shown.{fits, text_or_none}
use Rattle.engine_face.specs.declared.session.Session.{Session}
use Rattle.engine_face.proofs.Finding.{found, told, wrote}
use Rattle.engine_face.proofs.session.Session.name_text.Goals as goal

pub returns-clause-does : goal.returns-clause-does
returns-clause-does c =
    let new : Session = record { alloc = c.args.self.now.alloc; engine = c.name_text.new.self } in
    let P : Option ℕ → Type 0 = λ scope. Finds (cause (op.remove_name c.args.name.now scope)) (λ d. fits (text_of_name scope c.args.name.now d) c.args.room.now) c.args.self.now new c.answer_text.result in
    subst P c.scope_of.ensures (found (cause (op.remove_name c.args.name.now c.scope_of.result)) (λ d t. name_text_of d.book (key_of c.scope_of.result c.args.name.now) ≡ Some t) (λ t. t) (text_of_name c.scope_of.result c.args.name.now) (λ d t is. sym (ap text_or_none is)) c.args.self.now new c.name_text.ensures.stays c.args.room.now c.answer_text.new.room c.name_text.result c.answer_text.result c.name_text.ensures.answered c.answer_text.ensures.fits)

pub returns-clause-wrote : goal.returns-clause-wrote
returns-clause-wrote c =
    let new : Session = record { alloc = c.args.self.now.alloc; engine = c.name_text.new.self } in
    let P : Option ℕ → Type 0 = λ scope. Wrote (text_of_name scope c.args.name.now) c.args.room.now c.answer_text.new.room c.args.self.now c.answer_text.result in
    subst P c.scope_of.ensures (wrote (cause (op.remove_name c.args.name.now c.scope_of.result)) (λ d t. name_text_of d.book (key_of c.scope_of.result c.args.name.now) ≡ Some t) (λ t. t) (text_of_name c.scope_of.result c.args.name.now) (λ d t is. sym (ap text_or_none is)) c.args.self.now new c.name_text.ensures.stays c.args.room.now c.answer_text.new.room c.name_text.result c.answer_text.result c.name_text.ensures.answered c.answer_text.ensures.fits)

pub returns-clause-told : goal.returns-clause-told
returns-clause-told c =
    let new : Session = record { alloc = c.args.self.now.alloc; engine = c.name_text.new.self } in
    let P : Option ℕ → Type 0 = λ scope. Told (λ d. length (text_of_name scope c.args.name.now d)) c.args.needed.now c.answer_text.new.needed c.args.self.now c.answer_text.result in
    subst P c.scope_of.ensures (told (cause (op.remove_name c.args.name.now c.scope_of.result)) (λ d t. name_text_of d.book (key_of c.scope_of.result c.args.name.now) ≡ Some t) (λ t. t) (text_of_name c.scope_of.result c.args.name.now) (λ d t is. sym (ap text_or_none is)) c.args.self.now new c.name_text.ensures.stays c.args.room.now c.answer_text.new.room c.args.needed.now c.answer_text.new.needed c.name_text.result c.answer_text.result c.name_text.ensures.answered c.answer_text.ensures.fits c.answer_text.ensures.told)
