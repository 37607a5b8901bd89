use Rattle.std.proofs.Common.{◌<ℤ◌, sym, ap, arith, negsuc}
use Rattle.std.proofs.lemmas.Int.{ints}
use Rattle.fix_num.specs.Number.{within}
use Rattle.fix_num.proofs.Rounded.{rounded_to_far}
use Rattle.fix_num.proofs.number.Fixed.round_to.Goals as goal

pub returns-then-places-ltminus12 : goal.returns-then-places-ltminus12
returns-then-places-ltminus12 c =
    let far : c.args.places <ℤ negsuc 11 = grind (arith, ints) in
    sym (ap within (rounded_to_far c.args.self c.args.places c.size-size.ensures.inside far))
