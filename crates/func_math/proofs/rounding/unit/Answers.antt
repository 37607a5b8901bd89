use Rattle.std.proofs.Common.{◌≤◌, arith, pos, ◌-ℤ◌, unsigned_abs, to_z, of_z, w32}
use Rattle.std.proofs.lemmas.Int.{ints}
use Rattle.fix_num.proofs.Rounded.{pow_bounds}
use Rattle.func_math.proofs.rounding.unit.Goals as goal

pub returns-clause-positive : goal.returns-clause-positive
returns-clause-positive c =
    let few : unsigned_abs (to_z w32 (of_z w32 (pos 6 -ℤ to_z w32 (of_z w32 c.args.places)))) ≤ 18 = omega (arith, ints) in
    rw c.pow.ensures ((pow_bounds _ few).0)
