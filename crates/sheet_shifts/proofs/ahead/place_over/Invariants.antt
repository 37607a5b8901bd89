use Rattle.std.proofs.Common.{◌≤◌, ◌-◌}
use Rattle.cell_addr.specs.declared.place.Place.{Place}
use Rattle.sheet_shifts.specs.internal.Going.{GoesBy, TakesPlace, part}
use Rattle.sheet_shifts.specs.internal.Left.{IsLeft}
use Rattle.sheet_shifts.proofs.ahead.place_over.Given as goal

-- the sheet's lists from the index on are left, and from here it goes on as from the beginning
abbrev pub invariant-operations : goal.invariant-operations
invariant-operations l = record {
  from : l.from ≤ l.index;
  order : l.index ≤ l.to;
  left : IsLeft l.lists.run.items l.at.sheet l.index l.left;
  goes : (q : Place) → GoesBy TakesPlace (part l.index l.to l.lists.run.items) l.at q → GoesBy TakesPlace (part l.from l.to l.lists.run.items) l.fn.p q;
}

abbrev pub decreases-operations : goal.decreases-operations
decreases-operations l = l.to - l.index
