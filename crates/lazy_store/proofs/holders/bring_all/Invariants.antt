use Rattle.formula_tree.specs.Pooled.{held}
use Rattle.lazy_store.specs.Holders.{IsFront}
use Rattle.lazy_store.specs.internal.Recent.{ids_among}
use Rattle.lazy_store.specs.internal.Sweeps.{ArePlaced, Sweeps}
use Rattle.lazy_store.proofs.Tables.{IsDone}
use Rattle.lazy_store.proofs.holders.bring_all.Given as goal

-- the formulas gone by are no more to be taken along
abbrev pub invariant-holders : goal.invariant-holders
invariant-holders l = record {
  swept : Sweeps l.line l.side l.position l.fn.holders l.holders;
  placed : ArePlaced l.position l.fn.holders l.holders;
  done : IsDone l.line l.side l.position (ids_among l.among l.fn.holders) l.index l.holders;
  pool : IsFront (held l.fn.pool) (held l.pool);
}
