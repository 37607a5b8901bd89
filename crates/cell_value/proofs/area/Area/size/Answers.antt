-- The values of all cells are as many as the rows and columns have.
use Rattle.std.proofs.Common.{◌≡◌, ◌∙◌, arith, ap, sym, ◌*◌, length}
use Rattle.cell_value.specs.Cells.{Cells}
use Rattle.cell_value.specs.Filled.{spread}
use Rattle.cell_value.proofs.Spread.{length-spread}
use Rattle.cell_value.proofs.area.Area.size.Goals as goal

pub returns-clause-values : goal.returns-clause-values
returns-clause-values c =
    let a = c.self.inside in
    let size : c.from.result * c.from-2.result ≡ a.rows * a.cols = cc in
    let all : length (spread 0 (a.rows * a.cols) a.filled.items) ≡ a.rows * a.cols = omega (arith, length-spread 0 (a.rows * a.cols) a.filled.items c.self.invariant.2) in
    size ∙ sym all ∙ ap (λ (x : Cells). length x.values) c.self.view_is
