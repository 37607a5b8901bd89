use Rattle.std.proofs.Common.{List, subst}
use Rattle.kept_book.specs.Kept.{changes_of}
use Rattle.kept_book.specs.declared.part.Part.{Part}
use Rattle.kept_steps.specs.Turned.{AreOfCells, is_listed}
use Rattle.session_values.specs.Touched.{AreTouched, AreTouchedAtMost}
use Rattle.session_values.proofs.MarkedCells.{more_at_most, more_marked, more_touched}
use Rattle.session_values.proofs.values.SessionValues.touch_step.Goals as goal

pub returns-in_err-touch_part-clause-touched : goal.returns-in_err-touch_part-clause-touched
returns-in_err-touch_part-clause-touched c =
    subst (λ (ps : List Part). AreTouchedAtMost (is_listed (changes_of ps)) c.args.self.now.values c.touch_part.new.self.values) c.deref-part-items.ensures.value
    (more_at_most c.deref-part-items.result.now c.parts.part-index c.part-item.result c.parts-test.true c.part-item.is c.args.self.now.values c.parts.self.values c.touch_part.new.self.values c.parts.invariant.touched c.touch_part.ensures.touched)

pub returns-in_err-touch_part-clause-cells : goal.returns-in_err-touch_part-clause-cells
returns-in_err-touch_part-clause-cells c =
    subst (λ (ps : List Part). AreOfCells (changes_of ps) → AreTouched (is_listed (changes_of ps)) c.args.self.now.values c.touch_part.new.self.values) c.deref-part-items.ensures.value
    (more_touched c.deref-part-items.result.now c.parts.part-index c.part-item.result c.parts-test.true c.part-item.is c.args.self.now.values c.parts.self.values c.touch_part.new.self.values c.parts.invariant.cells c.touch_part.ensures.cells)

pub parts-preserved : goal.parts-preserved
parts-preserved c =
    let items = c.deref-part-items.result.now in
    record {
      touched = more_at_most items c.parts.part-index c.part-item.result c.parts-test.true c.part-item.is c.args.self.now.values c.parts.self.values c.touch_part.new.self.values c.parts.invariant.touched c.touch_part.ensures.touched;
      cells = more_touched items c.parts.part-index c.part-item.result c.parts-test.true c.part-item.is c.args.self.now.values c.parts.self.values c.touch_part.new.self.values c.parts.invariant.cells c.touch_part.ensures.cells;
      marked = more_marked items c.parts.part-index c.part-item.result c.parts-test.true c.part-item.is c.parts.self.values c.touch_part.new.self.values c.touch_part.ensures.touched c.parts.invariant.marked c.in_ok-touch_part.ensures.marked;
    }
