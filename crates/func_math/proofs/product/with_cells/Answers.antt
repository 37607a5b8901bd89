use Rattle.std.proofs.Common.{◌∙◌, ap, sym, ◌*◌}
use Rattle.func_math.specs.internal.Factors.{with_factors}
use Rattle.func_math.proofs.Factors.{with_factors-filled}
use Rattle.func_math.proofs.product.with_cells.Goals as goal

pub cells-init : goal.cells-init
cells-init c =
    sym (with_factors-filled 0 (c.args.area.now.rows * c.args.area.now.cols) c.filled-cell-items.result.now c.args.product)
    ∙ ap (with_factors c.args.product) (sym c.filled-cell-items.ensures.values)
