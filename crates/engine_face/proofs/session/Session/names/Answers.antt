use Rattle.std.proofs.Common.{None}
use Rattle.book_engine.specs.Areas.{entries_of}
use Rattle.engine_face.proofs.Listing.{names_bytes, names_found, names_rows, names_sizes, of_entries}
use Rattle.engine_face.proofs.session.Session.names.Goals as goal

pub returns-clause-does : goal.returns-clause-does
returns-clause-does c =
    names_found (λ d. None) (λ d. entries_of d.book) c.args.self.now c.args.self.now (λ d stands. stands) c.args.rows.now c.answer_names.new.rows c.args.words.now c.answer_names.new.words c.entries_made-list.result c.answer_names.result
    (λ d stands. of_entries None (entries_of d.book) c.names_found-end.result c.entries_made-list.result (c.names_found-end.ensures d stands) c.entries_made-list.ensures) c.answer_names.ensures.fits

pub returns-clause-rows : goal.returns-clause-rows
returns-clause-rows c =
    names_rows (λ d. None) (λ d. entries_of d.book) c.args.self.now c.args.self.now (λ d stands. stands) c.args.rows.now c.answer_names.new.rows c.args.words.now c.answer_names.new.words c.entries_made-list.result c.answer_names.result
    (λ d stands. of_entries None (entries_of d.book) c.names_found-end.result c.entries_made-list.result (c.names_found-end.ensures d stands) c.entries_made-list.ensures) c.answer_names.ensures.fits

pub returns-clause-words : goal.returns-clause-words
returns-clause-words c =
    names_bytes (λ d. None) (λ d. entries_of d.book) c.args.self.now c.args.self.now (λ d stands. stands) c.args.rows.now c.answer_names.new.rows c.args.words.now c.answer_names.new.words c.entries_made-list.result c.answer_names.result
    (λ d stands. of_entries None (entries_of d.book) c.names_found-end.result c.entries_made-list.result (c.names_found-end.ensures d stands) c.entries_made-list.ensures) c.answer_names.ensures.fits

pub returns-clause-told : goal.returns-clause-told
returns-clause-told c =
    names_sizes (λ d. None) (λ d. entries_of d.book) c.args.self.now c.args.self.now (λ d stands. stands) c.args.rows.now c.answer_names.new.rows c.args.words.now c.answer_names.new.words c.entries_made-list.result c.answer_names.result
    (λ d stands. of_entries None (entries_of d.book) c.names_found-end.result c.entries_made-list.result (c.names_found-end.ensures d stands) c.entries_made-list.ensures) c.answer_names.ensures.fits c.args.sizes.now c.answer_names.new.sizes c.answer_names.ensures.told
