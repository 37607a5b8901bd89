use Rattle.std.proofs.Common.{◌≡◌, ◌∙◌, ap, sym, ◌+◌, ◌*◌, arith, length}
use Rattle.std.specs.List.{count_by}
use Rattle.cell_value.specs.Scalar.{is_empty}
use Rattle.func_math.proofs.Counting.{blanks-filled}
use Rattle.func_math.proofs.count.blanks.Goals as goal

together : (c : goal.After-filled) → count_by is_empty c.args.area.now.values + length c.filled.result.now ≡ c.size.result
together c =
    ap (λ xs. count_by is_empty xs + length c.filled.result.now) c.filled.ensures.values
    ∙ blanks-filled (c.args.area.now.rows * c.args.area.now.cols) c.filled.result.now c.filled.ensures.ordered ∙ sym c.size.ensures.size

pub overflow_sub-result : goal.overflow_sub-result
overflow_sub-result c = let t = together c in omega arith

pub returns-clause-blanks : goal.returns-clause-blanks
returns-clause-blanks c = let t = together c in omega arith
