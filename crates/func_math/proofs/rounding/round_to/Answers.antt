use Rattle.std.proofs.Common.{arith}
use Rattle.std.proofs.lemmas.Int.{ints}
use Rattle.func_math.proofs.Places.{round_to_fine, round_to_far}
use Rattle.func_math.proofs.rounding.round_to.Goals as goal

pub returns-then-places-ge-PLACES : goal.returns-then-places-ge-PLACES
returns-then-places-ge-PLACES c = round_to_fine c.args.number c.args.places c.size-size.ensures.inside (grind (arith, ints))

pub returns-then-places : goal.returns-then-places
returns-then-places c = round_to_far c.args.number c.args.places c.size-size.ensures.inside (grind (arith, ints))
