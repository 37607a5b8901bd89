use Rattle.std.proofs.Common.{take}
use Rattle.kept_book.specs.Kept.{changes_of}
use Rattle.kept_steps.specs.Turned.{AreOfCells, is_listed}
use Rattle.session_values.specs.Touched.{AreTouched, AreTouchedAtMost, IsStepMarked}
use Rattle.session_values.proofs.values.SessionValues.touch_step.Given as goal

-- the parts so far were marked
abbrev pub invariant-parts : goal.invariant-parts
invariant-parts l = record {
  touched : AreTouchedAtMost (is_listed (changes_of l.part-items)) l.fn.self.values l.self.values;
  cells : AreOfCells (changes_of l.part-items) → AreTouched (is_listed (changes_of l.part-items)) l.fn.self.values l.self.values;
  marked : IsStepMarked (changes_of (take l.part-index l.part-items)) l.self.values;
}
