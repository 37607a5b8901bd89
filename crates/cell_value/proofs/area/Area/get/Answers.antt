-- What the binary search finds is the value of the cell, and where it finds none the cell is empty.
use Rattle.std.proofs.Common.{◌∙◌, ap, sym, ◌*◌, get_or, rules}
use Rattle.std.proofs.lemmas.List.Sorted.{answers_always}
use Rattle.cell_value.specs.Cells.{Cells}
use Rattle.cell_value.specs.declared.area.Filled.{Filled}
use Rattle.cell_value.specs.declared.scalar.Scalar.TheVariants.{Empty}
use Rattle.cell_value.proofs.Spread.{found-value, absent-value}
use Rattle.cell_value.proofs.area.Area.get.Goals as goal

pub returns-in-Ok : goal.returns-in-Ok
returns-in-Ok c =
    let a = c.self.inside in
    let cell = c.index.result.now in
    let found = rw c.deref.ensures.value at (c.in-Ok.ensures.position (λ (cell : Filled). cell.index) (answers_always _ _ _ (λ f a r g called. search rules)) cell) in
    let below = rw c.deref.ensures.value at c.in-Ok.ensures.bound in
    let value = found-value (a.rows * a.cols) c.args.index c.in-Ok.found a.filled.items cell c.self.invariant.2 below found in
    let values = ap (λ (x : Cells). get_or x.values c.args.index Empty) c.self.view_is in
    ap (λ (x : Filled). x.value) c.index.ensures ∙ sym value ∙ values

pub returns-in-Err : goal.returns-in-Err
returns-in-Err c =
    let a = c.self.inside in
    let parted = rw c.deref.ensures.value at (c.in-Err.ensures.position (λ (cell : Filled). cell.index) (answers_always _ _ _ (λ f a r g called. search rules))) in
    let value = absent-value (a.rows * a.cols) c.args.index c.in-Err.field-0 a.filled.items c.self.invariant.2 parted in
    let values = ap (λ (x : Cells). get_or x.values c.args.index Empty) c.self.view_is in
    sym value ∙ values
