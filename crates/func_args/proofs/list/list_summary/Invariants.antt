use Rattle.std.proofs.Common.{◌≡◌, take}
use Rattle.std.specs.List.{flat_map}
use Rattle.cell_value.specs.Summary.{IsBounded, summary_of}
use Rattle.func_args.specs.Lists.{listed}
use Rattle.func_args.proofs.list.list_summary.Given as goal

abbrev pub invariant-arguments : goal.invariant-arguments
invariant-arguments l = record { total : l.total ≡ summary_of (flat_map listed (take l.argument-index l.args)); bounded : IsBounded l.total }
