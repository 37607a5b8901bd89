use Rattle.std.proofs.Common.{◌≡◌, not, take}
use Rattle.std.specs.List.{count_by, flat_map}
use Rattle.cell_value.specs.Scalar.{is_empty}
use Rattle.func_math.specs.Counts.{all_values}
use Rattle.func_math.proofs.count.count_values.Given as goal

abbrev pub invariant-arguments : goal.invariant-arguments
invariant-arguments l = l.total ≡ count_by (λ x. not (is_empty x)) (flat_map all_values (take l.argument-index l.args))
