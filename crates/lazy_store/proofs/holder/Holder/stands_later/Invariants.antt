use Rattle.std.proofs.Common.{◌≡◌, ◌-◌, ◌≤◌, Some}
use Rattle.lazy_store.specs.Holders.{kept_of}
use Rattle.lazy_store.specs.Kept.{at}
use Rattle.lazy_store.specs.Standing.{Standing}
use Rattle.lazy_store.proofs.holder.Holder.stands_later.Given as goal

-- the home is that of the formula's standing on the way
abbrev pub invariant-later : goal.invariant-later
invariant-later l = record {
  from : l.self.position ≤ l.here;
  to : l.here ≤ l.position;
  found : (x : Standing) × (x.home ≡ l.home) × (at l.line (kept_of l.self) l.here ≡ Some x);
}

abbrev pub decreases-later : goal.decreases-later
decreases-later l = l.position - l.here
