use Rattle.std.proofs.Common.{◌≡◌, sym, rules, arith, ◌+◌, eqb-true, length, None}
use Rattle.formula_tree.specs.Pooled.{held}
use Rattle.formula_tree.specs.Relative.{relative}
use Rattle.run_walk.specs.Run.{home_over}
use Rattle.lazy_store.specs.Holders.{kept_of}
use Rattle.lazy_store.specs.Kept.{standing_at}
use Rattle.lazy_store.proofs.Runs.{no-run, run-found, run-lost, run-sound}
use Rattle.lazy_store.proofs.Stepping.{ends-there, front-changed, front-trans, none-further, none-past}
use Rattle.lazy_store.proofs.holder.Holder.found_later.Goals as goal

pub home_over-requires : goal.home_over-requires
home_over-requires c = run-sound c.args.line.now c.later.here c.run_from-run.result.now c.requires.sound c.run_from-run.ensures.run

pub forward_over-requires-clause-sound : goal.forward_over-requires-clause-sound
forward_over-requires-clause-sound c = run-sound c.args.line.now c.later.here c.run_from-run.result.now c.requires.sound c.run_from-run.ensures.run

pub returns-then-is_empty-clause-at : goal.returns-then-is_empty-clause-at
returns-then-is_empty-clause-at c =
    let line = c.args.line.now in
    let x = standing_at c.later.home (relative c.later.tree.value) in
    let run = c.run_from-run.result.now in
    let none : length run ≡ 0 = eqb-true (length run) 0 (sym c.if-is_empty.ensures) in
    sym (none-further line (kept_of c.args.self.now) c.later.here c.args.position x c.later.invariant.from c.later-test.true c.later.invariant.found
    (ends-there line c.later.here x (no-run line c.later.here c.args.position run c.run_from-run.ensures.some c.later-test.true none)))

pub returns-then-is_none-clause-at : goal.returns-then-is_none-clause-at
returns-then-is_none-clause-at c =
    let line = c.args.line.now in
    let h = kept_of c.args.self.now in
    let run = c.run_from-run.result.now in
    let x = standing_at c.later.home (relative c.later.tree.value) in
    let lost : home_over run c.later.home ≡ None = search rules in
    let within = c.run_from-run.ensures.within in
    sym (none-past line h (c.later.here + length run) c.args.position (omega (arith, c.later.invariant.from)) (omega (arith, within, c.later-test.true))
    (run-lost line h c.later.here run x c.later.invariant.from c.later.invariant.found c.run_from-run.ensures.run lost))

pub later-preserved : goal.later-preserved
later-preserved c =
    let line = c.args.line.now in
    let h = kept_of c.args.self.now in
    let run = c.run_from-run.result.now in
    let x = standing_at c.later.home (relative c.later.tree.value) in
    let made = c.in_ok-next in
    let within = c.run_from-run.ensures.within in
    record {
      from = omega (arith, c.later.invariant.from);
      to = omega (arith, c.later-test.true, within);
      found = run-found line h c.later.here run x c.later.invariant.from c.later.invariant.found c.run_from-run.ensures.run made.to (standing_at made.to (relative made.next.value)).tree made.ensures.home made.ensures.tree;
      fit = record { home = made.ensures.inside; tree = made.ensures.fits };
      pool = front-trans (held c.args.pool.now) (held c.later.pool) (held c.forward_over.new.pool) c.later.invariant.pool
          (front-changed (held c.later.pool) (held c.forward_over.new.pool) (relative c.later.tree.value) (relative made.next.value) made.ensures.held);
    }
