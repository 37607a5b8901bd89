use Rattle.book_model.specs.Operation as op
use Rattle.book_model.specs.Refusals.{cause}
use Rattle.area_reads.specs.Reads.{contents_in}
use Rattle.engine_face.specs.Lists.{as_texts}
use Rattle.engine_face.specs.declared.session.Session.{Session}
use Rattle.engine_face.proofs.Listing.{cells_bytes, cells_found, cells_rows, cells_sizes, of_contents}
use Rattle.engine_face.proofs.session.Session.contents.Goals as goal

pub returns-clause-does : goal.returns-clause-does
returns-clause-does c =
    let new : Session = record { alloc = c.args.self.now.alloc; engine = c.contents-end.new.engine } in
    cells_found (cause (op.copy c.args.area)) (λ d. as_texts (contents_in c.args.area d)) c.args.self.now new c.contents-end.ensures.quiet.stays c.args.rows.now c.answer_cells.new.rows c.args.texts.now c.answer_cells.new.texts c.contents_made-list.result c.answer_cells.result
    (λ d stands. of_contents (cause (op.copy c.args.area) d) (contents_in c.args.area d) c.contents-end.result c.contents_made-list.result (c.contents-end.ensures.answered d stands) c.contents_made-list.ensures) c.answer_cells.ensures.fits

pub returns-clause-rows : goal.returns-clause-rows
returns-clause-rows c =
    let new : Session = record { alloc = c.args.self.now.alloc; engine = c.contents-end.new.engine } in
    cells_rows (cause (op.copy c.args.area)) (λ d. as_texts (contents_in c.args.area d)) c.args.self.now new c.contents-end.ensures.quiet.stays c.args.rows.now c.answer_cells.new.rows c.args.texts.now c.answer_cells.new.texts c.contents_made-list.result c.answer_cells.result
    (λ d stands. of_contents (cause (op.copy c.args.area) d) (contents_in c.args.area d) c.contents-end.result c.contents_made-list.result (c.contents-end.ensures.answered d stands) c.contents_made-list.ensures) c.answer_cells.ensures.fits

pub returns-clause-texts : goal.returns-clause-texts
returns-clause-texts c =
    let new : Session = record { alloc = c.args.self.now.alloc; engine = c.contents-end.new.engine } in
    cells_bytes (cause (op.copy c.args.area)) (λ d. as_texts (contents_in c.args.area d)) c.args.self.now new c.contents-end.ensures.quiet.stays c.args.rows.now c.answer_cells.new.rows c.args.texts.now c.answer_cells.new.texts c.contents_made-list.result c.answer_cells.result
    (λ d stands. of_contents (cause (op.copy c.args.area) d) (contents_in c.args.area d) c.contents-end.result c.contents_made-list.result (c.contents-end.ensures.answered d stands) c.contents_made-list.ensures) c.answer_cells.ensures.fits

pub returns-clause-told : goal.returns-clause-told
returns-clause-told c =
    let new : Session = record { alloc = c.args.self.now.alloc; engine = c.contents-end.new.engine } in
    cells_sizes (cause (op.copy c.args.area)) (λ d. as_texts (contents_in c.args.area d)) c.args.self.now new c.contents-end.ensures.quiet.stays c.args.rows.now c.answer_cells.new.rows c.args.texts.now c.answer_cells.new.texts c.contents_made-list.result c.answer_cells.result
    (λ d stands. of_contents (cause (op.copy c.args.area) d) (contents_in c.args.area d) c.contents-end.result c.contents_made-list.result (c.contents-end.ensures.answered d stands) c.contents_made-list.ensures) c.answer_cells.ensures.fits c.args.sizes.now c.answer_cells.new.sizes c.answer_cells.ensures.told
