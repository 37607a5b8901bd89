use Rattle.stable_lines.proofs.Leveling.{all_below, all_filled, all_inverse, all_within, copied_levels}
use Rattle.stable_lines.proofs.TableLevels.{leveled_of}
use Rattle.stable_lines.proofs.table.LineTableClone.clone.Goals as goal

pub invariant_of-result : goal.invariant_of-result
invariant_of-result c =
    let t = c.args.self.now in
    let lines = c.in_ok-clone.field-0 in
    let positions = c.in_ok-clone-2.field-0 in
    let all = copied_levels t.limit t.base t.next t.lines t.positions lines positions c.in_ok-clone.ensures.cases c.in_ok-clone-2.ensures.cases (leveled_of t) in
    record {
      narrow = t.narrow;
      first = all.first;
      older = all.older;
      low = all.low;
      near_lines = all.near.lines_are_table;
      near_lines_end = all.near.lines_end;
      near_positions = all.near.positions_are_table;
      near_positions_end = all.near.positions_end;
      near_inverse = all.near.inverse;
      near_filled = all.near.filled;
      near_within = all.near.within;
      near_below = all.near.below;
      far_inverse = all.far.inverse;
      far_filled = all.far.filled;
      far_below = all.far.below;
      far_fresh = all.far.fresh;
      read = all.read;
      read_back = all.read_back;
      inverse = all_inverse t.limit t.base t.next lines positions all;
      filled = all_filled t.limit t.base t.next lines positions all;
      within = all_within t.limit t.base t.next lines positions all;
      below = all_below t.limit t.base t.next lines positions all;
    }
