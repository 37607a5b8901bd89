use Rattle.std.proofs.Common.{◌≡◌, map, take}
use Rattle.session_questions.proofs.areas.places_of.Given as goal

-- the places of the cells gone by
abbrev pub invariant-cells : goal.invariant-cells
invariant-cells _ l = l.places.items ≡ map (λ e. e.0) (take l.cell-index l.cells)
