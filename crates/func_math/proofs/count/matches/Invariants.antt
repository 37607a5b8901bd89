use Rattle.std.proofs.Common.{◌≡◌, map, take}
use Rattle.std.specs.List.{count_by}
use Rattle.func_args.proofs.Walk.{value_of}
use Rattle.func_math.specs.Criteria.{matches}
use Rattle.func_math.proofs.count.matches.Given as goal

abbrev pub invariant-cells : goal.invariant-cells
invariant-cells l = l.count ≡ count_by (matches l.criterion) (map value_of (take l.cell-index l.cell-items))
