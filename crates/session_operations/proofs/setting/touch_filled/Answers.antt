use Rattle.std.proofs.Common.{◌∙◌, ap, Result, Ok, Err}
use Rattle.std.specs.Prelude.{OnOk}
use Rattle.cell_addr.specs.Place.{covers}
use Rattle.grid_store.specs.Grid.{cells_of, seen_items}
use Rattle.kept_book.specs.Frame.{numbered_at}
use Rattle.kept_book.specs.Kept.{at_of}
use Rattle.session_values.specs.Touched.{is_place_of}
use Rattle.session_values.proofs.MarkedCells.{touched_within}
use Rattle.session_operations.proofs.TouchedCells.{filled_listed, filled_within}
use Rattle.session_operations.proofs.setting.touch_filled.Goals as goal

on_ok : {X E P Q : Type 0} (r : Result X E) → (P → Q) → OnOk r P → OnOk r Q
on_ok (Ok x) more h = more h
on_ok (Err e) more h = tt

pub returns-clause-touched : goal.returns-clause-touched
returns-clause-touched c =
    let items = c.deref.result.now in
    touched_within (is_place_of (λ e. e.0) items) (covers c.args.area) c.args.values.now.values c.touch_cells.new.self.values
    (filled_within c.args.area (cells_of c.args.session.now.book.grid) items (ap seen_items c.deref.ensures.value ∙ c.in_ok-filled.ensures)) c.touch_cells.ensures.touched

pub returns-clause-marked : goal.returns-clause-marked
returns-clause-marked c =
    let b = c.args.session.now.book in
    let items = c.deref.result.now in
    on_ok c.touch_cells.result (λ marked p covered filled.
    marked p (filled_listed c.args.area (cells_of b.grid) items (ap seen_items c.deref.ensures.value ∙ c.in_ok-filled.ensures) (numbered_at (at_of b) b.lazy.line.cursor) p covered filled)) c.touch_cells.ensures.marked
