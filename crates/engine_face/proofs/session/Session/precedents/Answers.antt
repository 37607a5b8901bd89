use Rattle.std.proofs.Common.{refl}
use Rattle.book_model.specs.Answers.{precedents_of}
use Rattle.book_model.specs.Operation as op
use Rattle.engine_face.proofs.Changing.{asked_still}
use Rattle.engine_face.proofs.Linking.{asked_links, told_counts, wrote_rows, wrote_words}
use Rattle.engine_face.proofs.session.Session.precedents.Goals as goal

pub returns-clause-does : goal.returns-clause-does
returns-clause-does c = asked_links (op.precedents c.args.at) (λ v. v.items) (λ d. precedents_of d c.args.at) (λ d P. asked_still (op.precedents c.args.at) d P refl) c.args.self.now (record { alloc = c.args.self.now.alloc; engine = c.precedents.new.self }) c.args.rows.now c.answer_links.new.rows c.args.words.now c.answer_links.new.words c.precedents.result c.answer_links.result c.precedents.ensures.does c.answer_links.ensures.fits

pub returns-clause-rows : goal.returns-clause-rows
returns-clause-rows c = wrote_rows (op.precedents c.args.at) (λ v. v.items) (λ d. precedents_of d c.args.at) (λ d P. asked_still (op.precedents c.args.at) d P refl) c.args.self.now (record { alloc = c.args.self.now.alloc; engine = c.precedents.new.self }) c.args.rows.now c.answer_links.new.rows c.args.words.now c.answer_links.new.words c.precedents.result c.answer_links.result c.precedents.ensures.does c.answer_links.ensures.fits

pub returns-clause-words : goal.returns-clause-words
returns-clause-words c = wrote_words (op.precedents c.args.at) (λ v. v.items) (λ d. precedents_of d c.args.at) (λ d P. asked_still (op.precedents c.args.at) d P refl) c.args.self.now (record { alloc = c.args.self.now.alloc; engine = c.precedents.new.self }) c.args.rows.now c.answer_links.new.rows c.args.words.now c.answer_links.new.words c.precedents.result c.answer_links.result c.precedents.ensures.does c.answer_links.ensures.fits

pub returns-clause-told : goal.returns-clause-told
returns-clause-told c = told_counts (op.precedents c.args.at) (λ v. v.items) (λ d. precedents_of d c.args.at) (λ d P. asked_still (op.precedents c.args.at) d P refl) c.args.self.now (record { alloc = c.args.self.now.alloc; engine = c.precedents.new.self }) c.args.rows.now c.answer_links.new.rows c.args.words.now c.answer_links.new.words c.args.counts.now c.answer_links.new.counts c.precedents.result c.answer_links.result c.precedents.ensures.does c.answer_links.ensures.fits c.answer_links.ensures.told
