use Rattle.std.proofs.Common.{◌≡◌, ◌-◌, ◌≤◌, max}
use Rattle.formula_tree.specs.Pooled.{held}
use Rattle.lazy_store.specs.Holders.{IsFront, kept_of}
use Rattle.lazy_store.specs.Kept.{IsAlong, history, lowest}
use Rattle.lazy_store.proofs.holder.Holder.go_to.Given as goal

-- the formula keeps its history
abbrev pub invariant-forward : goal.invariant-forward
invariant-forward l = record {
  along : IsAlong l.line (lowest l.line (kept_of l.fn.self)) (max l.fn.self.position l.position) (history l.line (kept_of l.fn.self)) (kept_of l.self);
  birth : l.self.birth ≡ l.fn.self.birth;
  live : l.self.live ≡ l.fn.self.live;
  pool : IsFront (held l.fn.pool) (held l.pool);
}

abbrev pub decreases-forward : goal.decreases-forward
decreases-forward l = l.position - l.self.position

abbrev pub invariant-back : goal.invariant-back
invariant-back l = record {
  along : IsAlong l.line (lowest l.line (kept_of l.fn.self)) (max l.fn.self.position l.position) (history l.line (kept_of l.fn.self)) (kept_of l.self);
  birth : l.self.birth ≡ l.fn.self.birth;
  live : l.self.live ≡ l.fn.self.live;
  past : l.position ≤ l.self.position;
  pool : IsFront (held l.fn.pool) (held l.pool);
}

abbrev pub decreases-back : goal.decreases-back
decreases-back l = l.self.position - l.position
