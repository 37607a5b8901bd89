use Rattle.std.proofs.Common.{◌≡◌, Vec, Global}
use Rattle.book_model.specs.Operation as op
use Rattle.book_model.specs.Refusals.{cause}
use Rattle.book_model.specs.Workbook.{State}
use Rattle.book_engine.specs.Areas.{cyclic_on_sheet}
use Rattle.engine_face.specs.Areas.{rows_on_cycle}
use Rattle.engine_face.specs.declared.areas.PlaceRow.{PlaceRow}
use Rattle.engine_face.proofs.Finding.{found, told, wrote}
use Rattle.engine_face.proofs.Listing.{of_places}
use Rattle.engine_face.proofs.session.Session.on_cycle.Goals as goal

pub returns-clause-does : goal.returns-clause-does
returns-clause-does c =
    found (cause (op.clear_sheet c.args.sheet)) (λ (d : State) (rows : Vec PlaceRow Global). rows.items ≡ rows_on_cycle c.args.sheet d) (λ (rows : Vec PlaceRow Global). rows.items) (rows_on_cycle c.args.sheet) (λ d rows is. is) c.args.self.now (record { alloc = c.args.self.now.alloc; engine = c.on_cycle.new.self }) c.on_cycle.ensures.stays c.args.rows.now c.answer_places.new.room c.rows_made-end.result c.answer_places.result
    (λ d stands. of_places (cause (op.clear_sheet c.args.sheet) d) (cyclic_on_sheet c.args.sheet d) c.on_cycle.result c.rows_made-end.result (c.on_cycle.ensures.answered d stands) c.rows_made-end.ensures) c.answer_places.ensures.fits

pub returns-clause-wrote : goal.returns-clause-wrote
returns-clause-wrote c =
    wrote (cause (op.clear_sheet c.args.sheet)) (λ (d : State) (rows : Vec PlaceRow Global). rows.items ≡ rows_on_cycle c.args.sheet d) (λ (rows : Vec PlaceRow Global). rows.items) (rows_on_cycle c.args.sheet) (λ d rows is. is) c.args.self.now (record { alloc = c.args.self.now.alloc; engine = c.on_cycle.new.self }) c.on_cycle.ensures.stays c.args.rows.now c.answer_places.new.room c.rows_made-end.result c.answer_places.result
    (λ d stands. of_places (cause (op.clear_sheet c.args.sheet) d) (cyclic_on_sheet c.args.sheet d) c.on_cycle.result c.rows_made-end.result (c.on_cycle.ensures.answered d stands) c.rows_made-end.ensures) c.answer_places.ensures.fits

pub returns-clause-told : goal.returns-clause-told
returns-clause-told c =
    told (cause (op.clear_sheet c.args.sheet)) (λ (d : State) (rows : Vec PlaceRow Global). rows.items ≡ rows_on_cycle c.args.sheet d) (λ (rows : Vec PlaceRow Global). rows.items) (rows_on_cycle c.args.sheet) (λ d rows is. is) c.args.self.now (record { alloc = c.args.self.now.alloc; engine = c.on_cycle.new.self }) c.on_cycle.ensures.stays c.args.rows.now c.answer_places.new.room c.args.count.now c.answer_places.new.count c.rows_made-end.result c.answer_places.result
    (λ d stands. of_places (cause (op.clear_sheet c.args.sheet) d) (cyclic_on_sheet c.args.sheet d) c.on_cycle.result c.rows_made-end.result (c.on_cycle.ensures.answered d stands) c.rows_made-end.ensures) c.answer_places.ensures.fits c.answer_places.ensures.told
