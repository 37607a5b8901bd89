use Rattle.std.proofs.Common.{◌≡◌, map, take}
use Rattle.cell_value.specs.Summary.{IsBounded, summary_of}
use Rattle.func_args.proofs.Walk.{value_of}
use Rattle.func_args.proofs.list.area_summary.Given as goal

abbrev pub invariant-cells : goal.invariant-cells
invariant-cells l = record { total : l.total ≡ summary_of (map value_of (take l.cell-index l.cell-items)); bounded : IsBounded l.total }
