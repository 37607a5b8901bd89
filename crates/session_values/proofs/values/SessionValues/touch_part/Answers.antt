use Rattle.std.proofs.Common.{[], ◌∷◌, refl}
use Rattle.kept_book.specs.Kept.{change_of}
use Rattle.kept_steps.specs.Turned.{is_listed}
use Rattle.session_values.proofs.MarkedCells.{at_most, part_marked, part_touched, replaced_touched}
use Rattle.session_values.proofs.values.SessionValues.touch_part.Goals as goal

pub returns-in_err-touch_cells-clause-touched : goal.returns-in_err-touch_cells-clause-touched
returns-in_err-touch_cells-clause-touched c =
    at_most (is_listed (change_of c.args.part.now ∷ [])) c.args.self.now.values c.touch_cells.new.self.values
    (replaced_touched (change_of c.args.part.now) c.items.result.now _ c.items.ensures refl c.args.self.now.values c.touch_cells.new.self.values c.touch_cells.ensures.touched)

pub returns-in_err-touch_cells-clause-cells : goal.returns-in_err-touch_cells-clause-cells
returns-in_err-touch_cells-clause-cells c = λ cells.
    replaced_touched (change_of c.args.part.now) c.items.result.now _ c.items.ensures refl c.args.self.now.values c.touch_cells.new.self.values c.touch_cells.ensures.touched

pub returns-clause-touched : goal.returns-clause-touched
returns-clause-touched c =
    at_most (is_listed (change_of c.args.part.now ∷ [])) c.args.self.now.values c.touch_cells-2.new.self.values
    (part_touched (change_of c.args.part.now) c.items.result.now c.items-2.result.now c.items.ensures c.items-2.ensures c.args.self.now.values c.touch_cells.new.self.values c.touch_cells-2.new.self.values c.touch_cells.ensures.touched c.touch_cells-2.ensures.touched)

pub returns-clause-cells : goal.returns-clause-cells
returns-clause-cells c = λ cells.
    part_touched (change_of c.args.part.now) c.items.result.now c.items-2.result.now c.items.ensures c.items-2.ensures c.args.self.now.values c.touch_cells.new.self.values c.touch_cells-2.new.self.values c.touch_cells.ensures.touched c.touch_cells-2.ensures.touched

pub returns-clause-marked : goal.returns-clause-marked
returns-clause-marked c =
    part_marked (change_of c.args.part.now) c.items.result.now c.items-2.result.now c.items.ensures c.items-2.ensures c.touch_cells-2.result c.touch_cells.new.self.values c.touch_cells-2.new.self.values (c.is_of_cells.ensures.0 c.if-not-is_of_cells.false) c.touch_cells-2.ensures.touched c.in_ok-touch_cells.ensures.marked c.touch_cells-2.ensures.marked
