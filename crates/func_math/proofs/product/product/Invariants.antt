use Rattle.std.proofs.Common.{◌≡◌, None, drop}
use Rattle.std.specs.List.{flat_map}
use Rattle.func_args.specs.Lists.{listed}
use Rattle.func_math.specs.internal.Factors.{with_factors}
use Rattle.func_math.proofs.product.product.Given as goal

abbrev pub invariant-arguments : goal.invariant-arguments
invariant-arguments l = with_factors l.product (flat_map listed (drop l.argument-index l.args)) ≡ with_factors None (flat_map listed l.args)
