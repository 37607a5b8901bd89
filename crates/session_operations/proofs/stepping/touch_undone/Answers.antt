use Rattle.std.proofs.Common.{◌∙◌, ◌-◌, ap, length, subst, sym, List}
use Rattle.std.specs.VecDeque.{deque_len}
use Rattle.std.specs.Prelude.{slice_get}
use Rattle.kept_book.specs.Change.{Change}
use Rattle.kept_steps.specs.Turned.{AreOfCells, is_listed, to_undo}
use Rattle.kept_steps.proofs.Turning.{last_entry, newest-step}
use Rattle.session_values.specs.Touched.{AreTouched}
use Rattle.session_values.proofs.MarkedCells.{untouched}
use Rattle.session_operations.proofs.stepping.touch_undone.Goals as goal

pub returns-in-Some-clause-cells : goal.returns-in-Some-clause-cells
returns-in-Some-clause-cells c =
    let step = newest-step c.args.session.now.steps.done c.in-Some.step.now (last_entry c.done.result.now.items (deque_len c.done.result.now) c.in-Some.step.now c.in-Some.ensures.item.3.0 c.done.result.now.ok.0 c.in-Some.ensures.item.1 ∙ ap (λ l. slice_get l (length l - 1)) c.done.ensures.result) in
    subst (λ (cs : List Change). AreOfCells cs → AreTouched (is_listed cs) c.args.values.now.values c.touch_step.new.self.values) (sym step) c.touch_step.ensures.cells

pub returns-in-None-clause-cells : goal.returns-in-None-clause-cells
returns-in-None-clause-cells c = λ of_cells. untouched (is_listed (to_undo c.args.session.now)) c.args.values.now.values
