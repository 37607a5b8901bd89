use Rattle.std.proofs.Common.{sym, subst, List, map}
use Rattle.range_cases.specs.Grid.{moved_cell, value_in}
use Rattle.range_cases.specs.declared.grid.Filled.{Filled}
use Rattle.range_table.specs.Ranges.{table_of}
use Rattle.range_table.specs.Table.{AreFolds}
use Rattle.range_cases.proofs.Grids.{cells_take}
use Rattle.range_cases.proofs.both.Both.shift.Goals as goal

pub invariant_of-self-2 : goal.invariant_of-self-2
invariant_of-self-2 c =
    let s = c.args.s.now in
    let cells = c.args.self.now.grid.cells.items in record {
      right = subst (λ (moved : List Filled). AreFolds (value_in moved) (table_of c.shift.new.self).kept) (sym c.shift-2.ensures)
          (c.in_ok-shift.ensures.right (value_in cells) (value_in (map (moved_cell s) cells)) (cells_take s cells c.requires) c.args.self.now.right);
    }
