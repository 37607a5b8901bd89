use Rattle.std.proofs.Common.{◌≡◌, ◌≤◌, ◌+◌, ◌∙◌, ap, sym, subst, arith, rules, length, slice_get, None}
use Rattle.formula_tree.specs.Pooled.{held}
use Rattle.lazy_store.specs.Holders.{IsFront}
use Rattle.lazy_store.specs.internal.Recent.{ids_among}
use Rattle.lazy_store.specs.internal.Sweeps.{ArePlaced, Sweeps}
use Rattle.lazy_store.proofs.Stepping.{front-trans}
use Rattle.lazy_store.proofs.Tables.{IsDone, all-done, done-more, done-passes, none-off, place-more, same-ids, still-there, sweep-more}
use Rattle.lazy_store.proofs.holders.bring_all.Goals as goal
use Rattle.lazy_store.proofs.holders.bring_all.Goals.{in-Some+in_ok-bring, in_default}

pub bring-requires-clause-there : goal.bring-requires-clause-there
bring-requires-clause-there c =
    still-there c.args.line.now c.args.side c.args.position c.args.holders.now c.holders.holders c.in-Some.id c.holders.invariant.swept c.requires.there c.in-Some.ensures.kept

pub returns-in_err-bring-clause-free : goal.returns-in_err-bring-clause-free
returns-in_err-bring-clause-free c = λ on.
    absurd (none-off c.args.line.now c.args.side c.args.position c.args.holders.now c.holders.holders c.in-Some.id c.holders.invariant.swept on c.in-Some.ensures.there c.in-Some.ensures.kept)

pub holders-preserved : goal.holders-preserved
holders-preserved c =
    let line = c.args.line.now in
    let old = c.args.holders.now in
    let mid = c.holders.holders in
    let index = c.holders.index in
    let so_far = c.holders.invariant in
    let ids = ids_among c.args.among old in
    let same : ids_among c.args.among mid ≡ ids = same-ids c.args.among old mid so_far.swept.along.keys in
    elim c.match-off_at.branch [
      | in-Some+in_ok-bring w ↦ record {
        swept = subst (Sweeps line c.args.side c.args.position old) (sym w.holders-is) (sweep-more line c.args.side c.args.position old mid w.bring.new.holders w.in-Some.id so_far.swept w.bring.ensures.brings w.in-Some.ensures.kept);
        placed = subst (ArePlaced c.args.position old) (sym w.holders-is)
            (place-more line c.args.side c.args.position old mid w.bring.new.holders w.in-Some.id so_far.placed w.bring.ensures.brings w.in_ok-bring.ensures.ok);
        done = subst (IsDone line c.args.side c.args.position ids (index + 1)) (sym w.holders-is)
            (done-more line c.args.side c.args.position ids mid w.bring.new.holders w.in-Some.id index so_far.done w.bring.ensures.brings (sym (ap (λ xs. slice_get xs index) same) ∙ w.in-Some.ensures.off) w.in_ok-bring.ensures.ok);
        pool = subst (λ p. IsFront (held c.args.pool.now) (held p)) (sym w.pool-is) (front-trans (held c.args.pool.now) (held c.holders.pool) (held w.bring.new.pool) so_far.pool w.bring.ensures.pool);
      }
      | in_default w ↦
          let none : c.off_at.result ≡ None = search rules in
          record {
            swept = subst (Sweeps line c.args.side c.args.position old) (sym w.holders-is) so_far.swept;
            placed = subst (ArePlaced c.args.position old) (sym w.holders-is) so_far.placed;
            done = subst (IsDone line c.args.side c.args.position ids (index + 1)) (sym w.holders-is)
                (done-passes line c.args.side c.args.position ids mid index so_far.done (λ id h there. c.off_at.ensures.none none id h (ap (λ xs. slice_get xs index) same ∙ there)));
            pool = subst (λ p. IsFront (held c.args.pool.now) (held p)) (sym w.pool-is) so_far.pool;
          }
    ]

pub returns-clause-ok : goal.returns-clause-ok
returns-clause-ok c =
    let ids = ids_among c.args.among c.args.holders.now in
    let count = c.len-index-end.ensures in
    let whole : length ids ≤ c.holders.index = omega (arith, count, c.holders-test.false) in
    all-done c.args.line.now c.args.side c.args.position ids c.args.holders.now c.holders.holders c.holders.index c.holders.invariant.swept c.requires.among c.holders.invariant.done whole
