use Rattle.std.proofs.Common.{◌≡◌, ◌-◌, ◌≤◌}
use Rattle.formula_tree.specs.Pooled.{held}
use Rattle.formula_tree.specs.Relative.{relative}
use Rattle.lazy_store.specs.Holders.{IsFront, kept_of}
use Rattle.lazy_store.specs.Kept.{history, standing_at}
use Rattle.lazy_store.proofs.holder.Holder.found_earlier.Given as goal

-- the formula's standing on the way
abbrev pub invariant-earlier : goal.invariant-earlier
invariant-earlier l = record {
  from : l.position ≤ l.here;
  to : l.here ≤ l.self.position;
  found : standing_at l.home (relative l.tree.value) ≡ history l.line (kept_of l.self) l.here;
  pool : IsFront (held l.fn.pool) (held l.pool);
}

abbrev pub decreases-earlier : goal.decreases-earlier
decreases-earlier l = l.here - l.position
