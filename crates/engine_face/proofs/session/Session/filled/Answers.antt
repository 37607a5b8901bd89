use Rattle.std.proofs.Common.{◌≡◌, Vec, Global}
use Rattle.book_model.specs.Operation as op
use Rattle.book_model.specs.Refusals.{cause}
use Rattle.book_model.specs.Workbook.{State}
use Rattle.book_engine.specs.Areas.{filled_in_block}
use Rattle.engine_face.specs.Areas.{rows_in_block}
use Rattle.engine_face.specs.declared.areas.PlaceRow.{PlaceRow}
use Rattle.engine_face.proofs.Finding.{found, told, wrote}
use Rattle.engine_face.proofs.Listing.{of_places}
use Rattle.engine_face.proofs.session.Session.filled.Goals as goal

pub returns-clause-does : goal.returns-clause-does
returns-clause-does c =
    found (cause (op.copy c.args.area)) (λ (d : State) (rows : Vec PlaceRow Global). rows.items ≡ rows_in_block c.args.area d) (λ (rows : Vec PlaceRow Global). rows.items) (rows_in_block c.args.area) (λ d rows is. is) c.args.self.now c.args.self.now (λ d stands. stands) c.args.rows.now c.answer_places.new.room c.rows_made-end.result c.answer_places.result
    (λ d stands. of_places (cause (op.copy c.args.area) d) (filled_in_block c.args.area d.book) c.filled.result c.rows_made-end.result (c.filled.ensures d stands) c.rows_made-end.ensures) c.answer_places.ensures.fits

pub returns-clause-wrote : goal.returns-clause-wrote
returns-clause-wrote c =
    wrote (cause (op.copy c.args.area)) (λ (d : State) (rows : Vec PlaceRow Global). rows.items ≡ rows_in_block c.args.area d) (λ (rows : Vec PlaceRow Global). rows.items) (rows_in_block c.args.area) (λ d rows is. is) c.args.self.now c.args.self.now (λ d stands. stands) c.args.rows.now c.answer_places.new.room c.rows_made-end.result c.answer_places.result
    (λ d stands. of_places (cause (op.copy c.args.area) d) (filled_in_block c.args.area d.book) c.filled.result c.rows_made-end.result (c.filled.ensures d stands) c.rows_made-end.ensures) c.answer_places.ensures.fits

pub returns-clause-told : goal.returns-clause-told
returns-clause-told c =
    told (cause (op.copy c.args.area)) (λ (d : State) (rows : Vec PlaceRow Global). rows.items ≡ rows_in_block c.args.area d) (λ (rows : Vec PlaceRow Global). rows.items) (rows_in_block c.args.area) (λ d rows is. is) c.args.self.now c.args.self.now (λ d stands. stands) c.args.rows.now c.answer_places.new.room c.args.count.now c.answer_places.new.count c.rows_made-end.result c.answer_places.result
    (λ d stands. of_places (cause (op.copy c.args.area) d) (filled_in_block c.args.area d.book) c.filled.result c.rows_made-end.result (c.filled.ensures d stands) c.rows_made-end.ensures) c.answer_places.ensures.fits c.answer_places.ensures.told
