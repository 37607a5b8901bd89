use Rattle.area_reads.specs.Reads.{values_cause, values_in}
use Rattle.engine_face.specs.declared.session.Session.{Session}
use Rattle.engine_face.proofs.Listing.{cells_bytes, cells_found, cells_rows, cells_sizes, of_values}
use Rattle.engine_face.proofs.session.Session.values.Goals as goal

pub returns-clause-does : goal.returns-clause-does
returns-clause-does c =
    let new : Session = record { alloc = c.args.self.now.alloc; engine = c.values_by-end.new.engine } in
    cells_found (values_cause c.args.area) (values_in c.args.area) c.args.self.now new c.values_by-end.ensures.stays c.args.rows.now c.answer_cells.new.rows c.args.texts.now c.answer_cells.new.texts c.values_made-list.result c.answer_cells.result
    (λ d stands. of_values (values_cause c.args.area d) (values_in c.args.area d) c.values_by-end.result c.values_made-list.result (c.values_by-end.ensures.answered d stands) c.values_made-list.ensures) c.answer_cells.ensures.fits

pub returns-clause-rows : goal.returns-clause-rows
returns-clause-rows c =
    let new : Session = record { alloc = c.args.self.now.alloc; engine = c.values_by-end.new.engine } in
    cells_rows (values_cause c.args.area) (values_in c.args.area) c.args.self.now new c.values_by-end.ensures.stays c.args.rows.now c.answer_cells.new.rows c.args.texts.now c.answer_cells.new.texts c.values_made-list.result c.answer_cells.result
    (λ d stands. of_values (values_cause c.args.area d) (values_in c.args.area d) c.values_by-end.result c.values_made-list.result (c.values_by-end.ensures.answered d stands) c.values_made-list.ensures) c.answer_cells.ensures.fits

pub returns-clause-texts : goal.returns-clause-texts
returns-clause-texts c =
    let new : Session = record { alloc = c.args.self.now.alloc; engine = c.values_by-end.new.engine } in
    cells_bytes (values_cause c.args.area) (values_in c.args.area) c.args.self.now new c.values_by-end.ensures.stays c.args.rows.now c.answer_cells.new.rows c.args.texts.now c.answer_cells.new.texts c.values_made-list.result c.answer_cells.result
    (λ d stands. of_values (values_cause c.args.area d) (values_in c.args.area d) c.values_by-end.result c.values_made-list.result (c.values_by-end.ensures.answered d stands) c.values_made-list.ensures) c.answer_cells.ensures.fits

pub returns-clause-told : goal.returns-clause-told
returns-clause-told c =
    let new : Session = record { alloc = c.args.self.now.alloc; engine = c.values_by-end.new.engine } in
    cells_sizes (values_cause c.args.area) (values_in c.args.area) c.args.self.now new c.values_by-end.ensures.stays c.args.rows.now c.answer_cells.new.rows c.args.texts.now c.answer_cells.new.texts c.values_made-list.result c.answer_cells.result
    (λ d stands. of_values (values_cause c.args.area d) (values_in c.args.area d) c.values_by-end.result c.values_made-list.result (c.values_by-end.ensures.answered d stands) c.values_made-list.ensures) c.answer_cells.ensures.fits c.args.sizes.now c.answer_cells.new.sizes c.answer_cells.ensures.told
