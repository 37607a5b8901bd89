use Rattle.std.proofs.Common.{◌∙◌, ap, sym, not, ◌*◌}
use Rattle.std.specs.List.{count_by}
use Rattle.cell_value.specs.Scalar.{is_empty}
use Rattle.func_math.specs.Counts.{values_in}
use Rattle.func_math.proofs.Counting.{full-filled}
use Rattle.func_math.proofs.count.values_in.Goals as goal

pub returns-in-Many : goal.returns-in-Many
returns-in-Many c =
    sym (full-filled 0 (c.in-Many.area.rows * c.in-Many.area.cols) c.filled.result.now c.filled.ensures.ordered)
    ∙ ap (count_by (λ x. not (is_empty x))) (sym c.filled.ensures.values) ∙ ap values_in (sym c.in-Many.is)
