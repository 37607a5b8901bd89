use Rattle.std.proofs.Common.{◌≡◌, drop}
use Rattle.custom_fn.specs.Pairs.{rises_above}
use Rattle.custom_fn.proofs.rule.rises_above.Given as goal

abbrev pub invariant-pairs : goal.invariant-pairs
invariant-pairs l = rises_above l.last (drop l.pair-index l.pairs) ≡ rises_above l.fn.number l.pairs
