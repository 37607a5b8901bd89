use Rattle.std.proofs.Common.{arith}
use Rattle.std.proofs.lemmas.Int.{ints}
use Rattle.func_math.proofs.Places.{raised_to_zero, raised_to_far}
use Rattle.func_math.proofs.rounding.raise_to.Goals as goal

pub returns-then-size-eq0 : goal.returns-then-size-eq0
returns-then-size-eq0 c = raised_to_zero c.args.number c.args.places (omega (arith, c.size-size.ensures.size))

pub returns-then-places : goal.returns-then-places
returns-then-places c = raised_to_far c.args.number c.args.places c.size-size.ensures.inside (omega (arith, c.size-size.ensures.size)) (grind (arith, ints))
