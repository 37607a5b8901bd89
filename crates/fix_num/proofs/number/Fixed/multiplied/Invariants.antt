use Rattle.std.proofs.Common.{◌≡◌, ◌-◌, pos}
use Rattle.fix_num.specs.Number.{multiplied}
use Rattle.fix_num.proofs.number.Fixed.multiplied.Given as goal

abbrev pub invariant-products : goal.invariant-products
invariant-products l = multiplied l.power l.self (l.times - l.done) ≡ multiplied (pos 1000000) l.self l.times
