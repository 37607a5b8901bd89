use Rattle.std.proofs.Common.{◌≡◌, ◌+◌, ◌*◌, ◌≤◌, ◌+ℤ◌, unsigned_abs, length}
use Rattle.custom_fn.specs.Pairs.{tier_total}
use Rattle.fix_num.specs.declared.number.TheConstants.{LIMIT}
use Rattle.custom_fn.proofs.rule.tier_total.Given as goal

abbrev pub invariant-tiers : goal.invariant-tiers
invariant-tiers l = record {
  summed : l.total +ℤ tier_total l.x l.rest ≡ tier_total l.x l.pairs;
  small : unsigned_abs l.total + length l.rest * (LIMIT * LIMIT) ≤ length l.pairs * (LIMIT * LIMIT);
}

abbrev pub decreases-tiers : goal.decreases-tiers
decreases-tiers l = length l.rest
