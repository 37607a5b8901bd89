use Rattle.std.proofs.Common.{◌≡◌, ◌-◌, ◌≤◌, Some}
use Rattle.formula_tree.specs.Pooled.{held}
use Rattle.formula_tree.specs.Relative.{relative}
use Rattle.lazy_store.specs.Holders.{IsFront, kept_of}
use Rattle.lazy_store.specs.Kept.{at, standing_at}
use Rattle.lazy_store.specs.Standing.{IsFit}
use Rattle.lazy_store.proofs.holder.Holder.found_later.Given as goal

-- the formula's standing on the way
abbrev pub invariant-later : goal.invariant-later
invariant-later l = record {
  from : l.self.position ≤ l.here;
  to : l.here ≤ l.position;
  found : at l.line (kept_of l.self) l.here ≡ Some (standing_at l.home (relative l.tree.value));
  fit : IsFit (standing_at l.home (relative l.tree.value));
  pool : IsFront (held l.fn.pool) (held l.pool);
}

abbrev pub decreases-later : goal.decreases-later
decreases-later l = l.position - l.here
