use Rattle.lazy_store.proofs.Tables.{AreCut}
use Rattle.lazy_store.proofs.holders.cut_all.Given as goal

-- the formulas gone by are cut
abbrev pub invariant-holders : goal.invariant-holders
invariant-holders l = AreCut l.position l.index l.fn.holders l.holders
