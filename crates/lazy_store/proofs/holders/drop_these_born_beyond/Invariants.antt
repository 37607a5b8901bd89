use Rattle.lazy_store.proofs.Noted.{AreDropped}
use Rattle.lazy_store.proofs.holders.drop_these_born_beyond.Given as goal

-- the formulas of the ids gone by are dropped
abbrev pub invariant-ids : goal.invariant-ids
invariant-ids l = AreDropped l.position l.ids l.index l.fn.holders l.holders
