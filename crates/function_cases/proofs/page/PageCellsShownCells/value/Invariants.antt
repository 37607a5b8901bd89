use Rattle.std.proofs.Common.{◌≡◌, drop}
use Rattle.function_cases.specs.Page.{shown_in}
use Rattle.function_cases.proofs.page.PageCellsShownCells.value.Given as goal

abbrev pub invariant-cells : goal.invariant-cells
invariant-cells l = shown_in (drop l.cell-index l.cell-items) l.at ≡ shown_in l.cell-items l.at
