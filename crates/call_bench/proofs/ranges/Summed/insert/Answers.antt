use Rattle.shift_core.specs.declared.shift.Shift.TheVariants.{InsertRows}
use Rattle.range_table.specs.Ranges.{table_of}
use Rattle.call_bench.proofs.Alike.{alike_right}
use Rattle.call_bench.proofs.ranges.Summed.insert.Goals as goal

pub invariant_of-self : goal.invariant_of-self
invariant_of-self c =
    let summed = c.args.self.now in record {
      right = alike_right c.shift.result summed.cells.value (InsertRows 0 c.args.at 1) (table_of summed.ranges) (table_of c.shift.new.self) c.shift.ensures.right c.shift.ensures.err summed.right;
    }
