use Rattle.std.proofs.Common.{ap₂, arith, ◌*◌}
use Rattle.range_table.proofs.Rows.{cells_fit}
use Rattle.range_table.proofs.merging.cells_in.Goals as goal

pub overflow_mul-result : goal.overflow_mul-result
overflow_mul-result c =
    let same = ap₂ (λ m n. m * n) c.height.ensures c.width.ensures in
    let fits = cells_fit c.args.b c.requires in
    omega (arith, same, fits)

pub returns : goal.returns
returns c = ap₂ (λ m n. m * n) c.height.ensures c.width.ensures
