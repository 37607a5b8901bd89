use Rattle.std.proofs.Common.{◌≡◌, take}
use Rattle.cell_value.specs.Summary.{IsBounded, summary_of}
use Rattle.func_math.specs.Criteria.{matches}
use Rattle.func_math.proofs.Chosen.{selected}
use Rattle.func_math.proofs.sum_if.chosen.Given as goal

abbrev pub invariant-cells : goal.invariant-cells
invariant-cells l = record { total : l.total ≡ summary_of (selected (matches l.criterion) l.tested.values (take l.cell-index l.cell-items)); bounded : IsBounded l.total }
