use Rattle.std.proofs.Common.{◌∙◌, sym, ap}
use Rattle.cell_addr.specs.declared.place.TheConstants.{NO_SHEET}
use Rattle.shift_core.specs.declared.shift.Shift.{Shift}
use Rattle.session_values.proofs.GoingBack.{keeps}
use Rattle.kept_book.specs.Kept.{line_of}
use Rattle.kept_steps.specs.Turned.{AreOfCells, is_listed, to_redo}
use Rattle.session_values.proofs.Following.{on_ok}
use Rattle.session_values.specs.Parts.{MarksPartsForth}
use Rattle.session_values.specs.Touched.{AreTouched}
use Rattle.session_operations.specs.Kept.{MarksAlong, MarksRedoneIn}
use Rattle.session_operations.specs.internal.Opposites.{with_opposite_of}
use Rattle.session_operations.proofs.Stepped.{operation_sound, sound_if_some}
use Rattle.session_operations.proofs.TurnedMarks.{both_when_ok, marked_along, marked_cells}
use Rattle.session_operations.proofs.parts.Parts.step_forth.Goals as goal

pub with_opposite-requires : goal.with_opposite-requires
with_opposite-requires c = sound_if_some c.args.self.now.session (to_redo c.args.self.now.session) c.operation_redone.result c.operation_redone.ensures

pub operation_forth-requires-clause-operation : goal.operation_forth-requires-clause-operation
operation_forth-requires-clause-operation c = sym c.operation_redone.ensures ∙ c.in-Some.ensures.operation

pub operation_forth-requires-clause-names : goal.operation_forth-requires-clause-names
operation_forth-requires-clause-names c =
    let x = c.args.self.now.session in
    let is = sym c.operation_redone.ensures ∙ c.in-Some.ensures.operation in
    (keeps c.in-Some.s _ (operation_sound x (to_redo x) c.in-Some.s is) c.in-Some.ensures.opposite NO_SHEET).0

pub returns-in-Some-clause-marks : goal.returns-in-Some-clause-marks
returns-in-Some-clause-marks c =
    let x = c.args.self.now.session in
    let old = c.args.self.now.values.values in
    let new = c.operation_forth.new.self.values.values in
    on_ok c.operation_forth.result (MarksAlong c.in-Some.s old new) (MarksRedoneIn x old new)
    (marked_along (line_of x.book) (to_redo x) (λ (s back : Shift). MarksAlong s old new) (MarksPartsForth x (to_redo x) old new) old new c.in-Some.s _ (sym c.operation_redone.ensures ∙ c.in-Some.ensures.operation) c.in-Some.ensures.opposite)
    c.operation_forth.ensures.marks

pub returns-in-None-clause-marks : goal.returns-in-None-clause-marks
returns-in-None-clause-marks c =
    let x = c.args.self.now.session in
    let old = c.args.self.now.values.values in
    let new = c.change_forth.new.self.values.values in
    on_ok c.change_forth.result ((AreOfCells (to_redo x) → AreTouched (is_listed (to_redo x)) old new) × (¬ AreOfCells (to_redo x) → MarksPartsForth x (to_redo x) old new)) (MarksRedoneIn x old new)
    (λ (cells, parts).
    marked_cells (line_of x.book) (to_redo x) (λ (s back : Shift). MarksAlong s old new) (MarksPartsForth x (to_redo x) old new) old new (c.in-None.ensures.both ∙ ap with_opposite_of c.operation_redone.ensures) cells parts)
    (both_when_ok c.change_forth.result (AreOfCells (to_redo x) → AreTouched (is_listed (to_redo x)) old new) (¬ AreOfCells (to_redo x) → MarksPartsForth x (to_redo x) old new) c.change_forth.ensures.marks c.change_forth.ensures.parts)
