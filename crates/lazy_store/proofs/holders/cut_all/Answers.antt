use Rattle.std.proofs.Common.{◌≡◌, ◌≤◌, ◌+◌, sym, subst, arith, rules, length, slice_get, None}
use Rattle.std.specs.HashMap as hash
use Rattle.lazy_store.proofs.Tables.{AreCut, all-cut, cut-more, cut-passes}
use Rattle.lazy_store.proofs.holders.cut_all.Goals as goal
use Rattle.lazy_store.proofs.holders.cut_all.Goals.{in-Some, in_default}

pub holders-preserved : goal.holders-preserved
holders-preserved c = elim c.match-id_at.branch [
  | in-Some w ↦
      subst (AreCut c.args.position (c.holders.index + 1) c.args.holders.now) (sym w.holders-is)
      (cut-more c.args.position c.args.holders.now c.holders.holders w.cut.new.holders w.in-Some.id c.holders.index c.holders.invariant w.cut.ensures (sym w.in-Some.ensures))
  | in_default w ↦
      let none : slice_get (hash.keys c.holders.holders) c.holders.index ≡ None = search rules in
      subst (AreCut c.args.position (c.holders.index + 1) c.args.holders.now) (sym w.holders-is)
      (cut-passes c.args.position c.args.holders.now c.holders.holders c.holders.index c.holders.invariant none)
]

pub returns-clause-cuts : goal.returns-clause-cuts
returns-clause-cuts c =
    let count = c.len-index-end.ensures.len in
    let whole : length c.args.holders.now.entries ≤ c.holders.index = omega (arith, count, c.holders-test.false) in
    all-cut c.args.position c.args.holders.now c.holders.holders c.holders.index c.holders.invariant whole
