use Rattle.std.proofs.Common.{◌≡◌, ◌∙◌, sym, ◌+◌, ◌*◌, arith}
use Rattle.std.specs.List.{count_by}
use Rattle.std.proofs.lemmas.List.Sums.{count_by-le-length}
use Rattle.func_math.specs.Criteria.{matches}
use Rattle.func_math.proofs.Counting.{counted_passing, counted_failing}
use Rattle.func_math.proofs.count.matches.Goals.{After-blanks-count}
use Rattle.func_math.proofs.count.matches.Goals as goal

with_blanks : (c : After-blanks-count) → c.cells.count + c.blanks-count.result ≡ count_by (matches c.args.criterion.now) c.args.area.now.values
with_blanks c =
    let area = c.args.area.now in
    counted_passing (matches c.args.criterion.now) (area.rows * area.cols) c.cells.count c.blanks-count.result c.cells.cell-index c.filled-cell-items.result.now area.values
    c.filled-cell-items.ensures.ordered c.filled-cell-items.ensures.values c.cells.invariant c.cells-test.false (sym c.matches-2.ensures ∙ c.if-matches-2.true) c.blanks-count.ensures.blanks

pub overflow_add-count-then-matches-2 : goal.overflow_add-count-then-matches-2
overflow_add-count-then-matches-2 c =
    let e = with_blanks c in
    let f = count_by-le-length (matches c.args.criterion.now) c.args.area.now.values in
    let g = c.blanks-count.ensures.few in
    omega arith

pub returns-then-matches-2 : goal.returns-then-matches-2
returns-then-matches-2 c = with_blanks c

pub returns-else-matches-2 : goal.returns-else-matches-2
returns-else-matches-2 c =
    let area = c.args.area.now in
    counted_failing (matches c.args.criterion.now) (area.rows * area.cols) c.cells.count c.cells.cell-index c.filled-cell-items.result.now area.values
    c.filled-cell-items.ensures.ordered c.filled-cell-items.ensures.values c.cells.invariant c.cells-test.false (sym c.matches-2.ensures ∙ c.if-matches-2.false)
