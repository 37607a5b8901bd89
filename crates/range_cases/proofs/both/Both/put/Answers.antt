use Rattle.std.proofs.Common.{sym, subst, refl, List, Some}
use Rattle.range_cases.specs.Grid.{value_in}
use Rattle.range_cases.specs.declared.grid.Filled.{Filled}
use Rattle.range_table.specs.Ranges.{table_of}
use Rattle.range_table.specs.Table.{AreFolds, RangeTable, without_holders}
use Rattle.range_cases.proofs.Grids.{put_right}
use Rattle.range_cases.proofs.both.Both.put.Goals as goal

pub invariant_of-self : goal.invariant_of-self
invariant_of-self c =
    let kept = (table_of c.args.self.now.ranges).kept in record {
      right = subst (λ (cells : List Filled). AreFolds (value_in cells) kept) (sym c.in_err-put.ensures.err) c.args.self.now.right;
    }

pub invariant_of-self-2 : goal.invariant_of-self-2
invariant_of-self-2 c =
    let b = c.args.self.now in
    let kept = (table_of b.ranges).kept in
    let cell : Filled = record { at = Some c.args.at; value = c.args.value } in record {
      right = subst (λ (t : RangeTable). AreFolds (value_in c.put.new.self.cells.items) t.kept) (sym c.touch.ensures)
          (subst (λ (cells : List Filled). AreFolds (value_in cells) (without_holders c.args.at kept)) (sym c.in_ok-put.ensures.put) (put_right b.grid.cells.items cell c.args.at kept refl b.right));
    }
