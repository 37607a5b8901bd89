use Rattle.std.proofs.Common.{◌≡◌, ◌≤◌, take, min}
use Rattle.digits.specs.Digits.{value}
use Rattle.digits.proofs.value_at_most.Given as goal

abbrev pub invariant-digits : goal.invariant-digits
invariant-digits l = (l.total ≡ min (value (take l.byte-index l.digits)) l.most) × (l.most ≤ 1000000000000000000)
