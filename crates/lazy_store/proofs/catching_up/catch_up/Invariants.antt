use Rattle.std.proofs.Common.{◌≡◌, ℕ, Some}
use Rattle.std.specs.HashMap as hash
use Rattle.formula_tree.specs.Pooled.{held}
use Rattle.lazy_store.specs.Holders.{IsFront, kept_under}
use Rattle.lazy_store.specs.Kept.{Kept, Lags}
use Rattle.lazy_store.specs.internal.Passes.{HasPassed}
use Rattle.lazy_store.specs.internal.Recent.{AreNoted}
use Rattle.lazy_store.specs.internal.Sweeps.{StandAlong}
use Rattle.lazy_store.proofs.catching_up.catch_up.Given as goal

-- the pass went by the formulas before the index
abbrev pub invariant-holders : goal.invariant-holders
invariant-holders l = record {
  along : StandAlong l.line l.fn.holders l.holders;
  noted : AreNoted l.recent l.holders;
  others : (id : ℕ) (h : Kept) → kept_under l.fn.holders id ≡ Some h → ¬ Lags l.line l.line.cursor h → kept_under l.holders id ≡ Some h;
  passed : HasPassed l.line l.line.cursor (hash.keys l.fn.holders) l.budget l.index l.pass.left l.pass.all (kept_under l.fn.holders) (kept_under l.holders);
  pool : IsFront (held l.fn.pool) (held l.pool);
}
