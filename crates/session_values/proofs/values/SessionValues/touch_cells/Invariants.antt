use Rattle.std.proofs.Common.{take}
use Rattle.session_values.specs.Touched.{AreMarkedIn, AreTouched, is_place_of}
use Rattle.session_values.proofs.values.SessionValues.touch_cells.Given as goal

-- the items so far were marked
abbrev pub invariant-cells : goal.invariant-cells
invariant-cells g l = record {
  touched : AreTouched (is_place_of (λ e. e.0) l.cells) l.fn.self.values l.self.values;
  marked : AreMarkedIn l.self.values (is_place_of (λ e. e.0) (take l.cell-index l.cells));
}
