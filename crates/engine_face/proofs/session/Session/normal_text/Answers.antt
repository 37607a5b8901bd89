use Rattle.std.proofs.Common.{◌≡◌, ap, sym, Some}
use Rattle.book_engine.specs.Formulas.{normal_text_of, text_cause}
use Rattle.engine_face.specs.Lists.{text_of_formula}
use Rattle.engine_face.specs.Shown.{text_or_none}
use Rattle.engine_face.specs.declared.session.Session.{Session}
use Rattle.engine_face.proofs.Finding.{found, told, wrote}
use Rattle.engine_face.proofs.session.Session.normal_text.Goals as goal

pub returns-clause-does : goal.returns-clause-does
returns-clause-does c =
    let new : Session = record { alloc = c.args.self.now.alloc; engine = c.normal_text.new.self } in
    found (λ d. text_cause d.book c.args.sheet c.args.text.now) (λ d t. normal_text_of d.book c.args.sheet c.args.text.now ≡ Some t) (λ t. t) (text_of_formula c.args.sheet c.args.text.now) (λ d t is. sym (ap text_or_none is)) c.args.self.now new c.normal_text.ensures.stays c.args.room.now c.answer_text.new.room c.normal_text.result c.answer_text.result c.normal_text.ensures.answered c.answer_text.ensures.fits

pub returns-clause-wrote : goal.returns-clause-wrote
returns-clause-wrote c =
    let new : Session = record { alloc = c.args.self.now.alloc; engine = c.normal_text.new.self } in
    wrote (λ d. text_cause d.book c.args.sheet c.args.text.now) (λ d t. normal_text_of d.book c.args.sheet c.args.text.now ≡ Some t) (λ t. t) (text_of_formula c.args.sheet c.args.text.now) (λ d t is. sym (ap text_or_none is)) c.args.self.now new c.normal_text.ensures.stays c.args.room.now c.answer_text.new.room c.normal_text.result c.answer_text.result c.normal_text.ensures.answered c.answer_text.ensures.fits

pub returns-clause-told : goal.returns-clause-told
returns-clause-told c =
    let new : Session = record { alloc = c.args.self.now.alloc; engine = c.normal_text.new.self } in
    told (λ d. text_cause d.book c.args.sheet c.args.text.now) (λ d t. normal_text_of d.book c.args.sheet c.args.text.now ≡ Some t) (λ t. t) (text_of_formula c.args.sheet c.args.text.now) (λ d t is. sym (ap text_or_none is)) c.args.self.now new c.normal_text.ensures.stays c.args.room.now c.answer_text.new.room c.args.needed.now c.answer_text.new.needed c.normal_text.result c.answer_text.result c.normal_text.ensures.answered c.answer_text.ensures.fits c.answer_text.ensures.told
