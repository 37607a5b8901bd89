use Rattle.std.proofs.Common.{◌∙◌, sym, ap}
use Rattle.shift_core.specs.declared.shift.Shift.{Shift}
use Rattle.kept_book.specs.Kept.{line_of}
use Rattle.kept_steps.specs.Turned.{AreOfCells, is_listed, to_undo}
use Rattle.session_values.proofs.Following.{on_ok}
use Rattle.session_values.specs.Parts.{MarksPartsBack}
use Rattle.session_values.specs.Touched.{AreTouched}
use Rattle.session_operations.specs.Kept.{MarksReturned, MarksUndoneIn}
use Rattle.session_operations.specs.internal.Opposites.{with_opposite_of}
use Rattle.session_operations.proofs.Stepped.{sound_if_some}
use Rattle.session_operations.proofs.TurnedMarks.{both_when_ok, marked_along, marked_cells}
use Rattle.session_operations.proofs.parts.Parts.step_back.Goals as goal

pub with_opposite-requires : goal.with_opposite-requires
with_opposite-requires c = sound_if_some c.args.self.now.session (to_undo c.args.self.now.session) c.operation_undone.result c.operation_undone.ensures

pub operation_back-requires-clause-operation : goal.operation_back-requires-clause-operation
operation_back-requires-clause-operation c = sym c.operation_undone.ensures ∙ c.in-Some.ensures.operation

pub returns-in-Some-clause-marks : goal.returns-in-Some-clause-marks
returns-in-Some-clause-marks c =
    let x = c.args.self.now.session in
    let old = c.args.self.now.values.values in
    let new = c.operation_back.new.self.values.values in
    on_ok c.operation_back.result (MarksReturned c.in-Some.s c.in-Some.back (to_undo x) old new) (MarksUndoneIn x old new)
    (marked_along (line_of x.book) (to_undo x) (λ (s back : Shift). MarksReturned s back (to_undo x) old new) (MarksPartsBack x (to_undo x) old new) old new c.in-Some.s c.in-Some.back (sym c.operation_undone.ensures ∙ c.in-Some.ensures.operation) c.in-Some.ensures.opposite)
    c.operation_back.ensures.marks

pub returns-in-None-clause-marks : goal.returns-in-None-clause-marks
returns-in-None-clause-marks c =
    let x = c.args.self.now.session in
    let old = c.args.self.now.values.values in
    let new = c.change_back.new.self.values.values in
    on_ok c.change_back.result ((AreOfCells (to_undo x) → AreTouched (is_listed (to_undo x)) old new) × (¬ AreOfCells (to_undo x) → MarksPartsBack x (to_undo x) old new)) (MarksUndoneIn x old new)
    (λ (cells, parts).
    marked_cells (line_of x.book) (to_undo x) (λ (s back : Shift). MarksReturned s back (to_undo x) old new) (MarksPartsBack x (to_undo x) old new) old new (c.in-None.ensures.both ∙ ap with_opposite_of c.operation_undone.ensures) cells parts)
    (both_when_ok c.change_back.result (AreOfCells (to_undo x) → AreTouched (is_listed (to_undo x)) old new) (¬ AreOfCells (to_undo x) → MarksPartsBack x (to_undo x) old new) c.change_back.ensures.marks c.change_back.ensures.parts)
