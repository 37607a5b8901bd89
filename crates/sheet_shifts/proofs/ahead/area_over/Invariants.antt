use Rattle.std.proofs.Common.{◌≤◌, ◌-◌}
use Rattle.cell_addr.specs.Place.{IsBlockInside}
use Rattle.cell_addr.specs.declared.place.Block.{Block}
use Rattle.tree_rewrite.specs.internal.Passage.{IsFull}
use Rattle.sheet_shifts.specs.internal.Going.{CarriesArea, GoesBy, part}
use Rattle.sheet_shifts.specs.internal.Left.{IsLeft}
use Rattle.sheet_shifts.proofs.ahead.area_over.Given as goal

-- the sheet's lists from the index on are left, the block lies on the sheet and still stands for a whole range, and
-- from here it goes on as from the beginning
abbrev pub invariant-operations : goal.invariant-operations
invariant-operations l = record {
  from : l.from ≤ l.index;
  order : l.index ≤ l.to;
  left : IsLeft l.lists.run.items l.at.sheet l.index l.left;
  inside : IsBlockInside l.at;
  full : IsFull l.lines l.at;
  goes : (c : Block) → GoesBy (CarriesArea l.lines) (part l.index l.to l.lists.run.items) l.at c → GoesBy (CarriesArea l.lines) (part l.from l.to l.lists.run.items) l.fn.b c;
}

abbrev pub decreases-operations : goal.decreases-operations
decreases-operations l = l.to - l.index
