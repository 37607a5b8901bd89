use Rattle.std.proofs.Common.{arith}
use Rattle.std.proofs.lemmas.Int.{ints}
use Rattle.func_math.proofs.Places.{cut_to_far}
use Rattle.func_math.proofs.rounding.cut_to.Goals as goal

pub returns-then-places : goal.returns-then-places
returns-then-places c = cut_to_far c.args.number c.args.places c.size-size.ensures.inside (grind (arith, ints))
