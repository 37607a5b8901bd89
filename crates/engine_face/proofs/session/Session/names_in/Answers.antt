use Rattle.book_engine.specs.Formulas.{names_used_of, text_cause}
use Rattle.engine_face.specs.Lists.{as_names, words_or_none}
use Rattle.engine_face.specs.declared.session.Session.{Session}
use Rattle.engine_face.proofs.Listing.{names_bytes, names_found, names_rows, names_sizes, of_words}
use Rattle.engine_face.proofs.session.Session.names_in.Goals as goal

pub returns-clause-does : goal.returns-clause-does
returns-clause-does c =
    let new : Session = record { alloc = c.args.self.now.alloc; engine = c.names_in-end.new.self } in
    names_found (λ d. text_cause d.book c.args.sheet c.args.text.now) (λ d. as_names (words_or_none (names_used_of d.book c.args.sheet c.args.text.now))) c.args.self.now new c.names_in-end.ensures.stays c.args.rows.now c.answer_names.new.rows c.args.words.now c.answer_names.new.words c.words_made-list.result c.answer_names.result
    (λ d stands. of_words (text_cause d.book c.args.sheet c.args.text.now) (names_used_of d.book c.args.sheet c.args.text.now) c.names_in-end.result c.words_made-list.result (c.names_in-end.ensures.answered d stands) c.words_made-list.ensures) c.answer_names.ensures.fits

pub returns-clause-rows : goal.returns-clause-rows
returns-clause-rows c =
    let new : Session = record { alloc = c.args.self.now.alloc; engine = c.names_in-end.new.self } in
    names_rows (λ d. text_cause d.book c.args.sheet c.args.text.now) (λ d. as_names (words_or_none (names_used_of d.book c.args.sheet c.args.text.now))) c.args.self.now new c.names_in-end.ensures.stays c.args.rows.now c.answer_names.new.rows c.args.words.now c.answer_names.new.words c.words_made-list.result c.answer_names.result
    (λ d stands. of_words (text_cause d.book c.args.sheet c.args.text.now) (names_used_of d.book c.args.sheet c.args.text.now) c.names_in-end.result c.words_made-list.result (c.names_in-end.ensures.answered d stands) c.words_made-list.ensures) c.answer_names.ensures.fits

pub returns-clause-words : goal.returns-clause-words
returns-clause-words c =
    let new : Session = record { alloc = c.args.self.now.alloc; engine = c.names_in-end.new.self } in
    names_bytes (λ d. text_cause d.book c.args.sheet c.args.text.now) (λ d. as_names (words_or_none (names_used_of d.book c.args.sheet c.args.text.now))) c.args.self.now new c.names_in-end.ensures.stays c.args.rows.now c.answer_names.new.rows c.args.words.now c.answer_names.new.words c.words_made-list.result c.answer_names.result
    (λ d stands. of_words (text_cause d.book c.args.sheet c.args.text.now) (names_used_of d.book c.args.sheet c.args.text.now) c.names_in-end.result c.words_made-list.result (c.names_in-end.ensures.answered d stands) c.words_made-list.ensures) c.answer_names.ensures.fits

pub returns-clause-told : goal.returns-clause-told
returns-clause-told c =
    let new : Session = record { alloc = c.args.self.now.alloc; engine = c.names_in-end.new.self } in
    names_sizes (λ d. text_cause d.book c.args.sheet c.args.text.now) (λ d. as_names (words_or_none (names_used_of d.book c.args.sheet c.args.text.now))) c.args.self.now new c.names_in-end.ensures.stays c.args.rows.now c.answer_names.new.rows c.args.words.now c.answer_names.new.words c.words_made-list.result c.answer_names.result
    (λ d stands. of_words (text_cause d.book c.args.sheet c.args.text.now) (names_used_of d.book c.args.sheet c.args.text.now) c.names_in-end.result c.words_made-list.result (c.names_in-end.ensures.answered d stands) c.words_made-list.ensures) c.answer_names.ensures.fits c.args.sizes.now c.answer_names.new.sizes c.answer_names.ensures.told
