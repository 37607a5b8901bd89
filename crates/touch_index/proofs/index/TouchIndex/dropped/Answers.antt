use Rattle.place_lines.specs.Spots.{spot_of}
use Rattle.shift_core.specs.Carried.{first_place}
use Rattle.touch_index.proofs.Touching.{dropped_block, dropped_cell, first_inside, in_all, low_row}
use Rattle.touch_index.proofs.index.TouchIndex.dropped.Goals as goal

pub returns-clause-cells : goal.returns-clause-cells
returns-clause-cells c = λ lines p n inside kept touched.
    c.in_ok-find_on-2.ensures.still n
    (c.in_ok-find_on.ensures.found (spot_of lines p) n kept (dropped_cell c.args.sheet p touched) (in_all (spot_of lines p).row (low_row lines p inside)))

pub returns-clause-blocks : goal.returns-clause-blocks
returns-clause-blocks c = λ lines b n inside kept touched.
    c.in_ok-find_on-2.ensures.found (spot_of lines (first_place b)) n kept.0 (dropped_block c.args.sheet b touched)
    (in_all (spot_of lines (first_place b)).row (low_row lines (first_place b) (first_inside b inside)))
