use Rattle.std.proofs.Common.{◌≡◌, ◌∙◌, sym, ap, refl, arith, ℕ, ◌-◌, ◌<◌, ◌≤◌, length, Some, None, option_map}
use Rattle.formula_tree.specs.Pooled.{held}
use Rattle.formula_tree.specs.Relative.{relative}
use Rattle.lazy_store.specs.Holders.{kept_of}
use Rattle.lazy_store.specs.Kept.{history, lowest, standing_at}
use Rattle.lazy_store.proofs.Histories.{at-is}
use Rattle.lazy_store.proofs.Passing.{back-found, back-home}
use Rattle.lazy_store.proofs.Runs.{back_over-found, back_over-home, run-sound}
use Rattle.lazy_store.proofs.Stepping.{front-changed, front-trans}
use Rattle.lazy_store.proofs.holder.Holder.found_earlier.Goals as goal

pub found_before-requires-clause-kept : goal.found_before-requires-clause-kept
found_before-requires-clause-kept c =
    let line = c.args.line.now in
    let h = kept_of c.args.self.now in
    let x = standing_at c.earlier.home (relative c.earlier.tree.value) in
    back-home line c.requires.sound (lowest line h) h.position (history line h) h c.requires.coherent.along c.earlier.here c.in-Some.s x
    (omega (arith, c.requires.from, c.earlier-test.true)) c.earlier.invariant.to (sym c.in-Some.ensures) c.earlier.invariant.found

pub earlier-preserved : goal.earlier-preserved
earlier-preserved c =
    let line = c.args.line.now in
    let h = kept_of c.args.self.now in
    let x = standing_at c.earlier.home (relative c.earlier.tree.value) in
    let y = standing_at c.in_ok-next-2.to (relative c.in_ok-next-2.next.value) in
    record {
      from = omega (arith, c.earlier-test.true);
      to = omega (arith, c.earlier.invariant.to);
      found = back-found line c.requires.sound (lowest line h) h.position (history line h) h c.requires.coherent.along c.earlier.here c.in-Some.s x
          (omega (arith, c.requires.from, c.earlier-test.true)) c.earlier.invariant.to (sym c.in-Some.ensures) c.earlier.invariant.found y c.in_ok-next-2.ensures.before;
      pool = front-trans (held c.args.pool.now) (held c.earlier.pool) (held c.found_before.new.pool) c.earlier.invariant.pool c.found_before.ensures.pool;
    }

pub backward_over-requires-clause-sound : goal.backward_over-requires-clause-sound
backward_over-requires-clause-sound c =
    let run = c.run_to-run.result.now in
    run-sound c.args.line.now (c.earlier.here - length run) run c.requires.sound c.run_to-run.ensures.run

pub backward_over-requires-clause-kept : goal.backward_over-requires-clause-kept
backward_over-requires-clause-kept c =
    let line = c.args.line.now in
    let h = kept_of c.args.self.now in
    let run = c.run_to-run.result.now in
    let x = standing_at c.earlier.home (relative c.earlier.tree.value) in
    let start = c.earlier.here - length run in
    let within = c.run_to-run.ensures.within in
    let from = c.unsaved_from.ensures.from in
    let to = c.unsaved_from.ensures.to in
    let none : (j : ℕ) → start ≤ j → j < c.earlier.here → h.saved j ≡ None = (λ j above under. ap (option_map (λ t. relative t.value)) (c.unsaved_from.ensures.unsaved j (omega (arith, above, within, to)) under)) in
    back_over-home line c.requires.sound (lowest line h) h.position (history line h) h c.requires.coherent.along run start c.earlier.here x c.run_to-run.ensures.run
    (omega (arith, within)) (omega (arith, within, from, to, c.requires.from)) c.earlier.invariant.to none c.earlier.invariant.found

pub earlier-preserved-then-not-is_empty : goal.earlier-preserved-then-not-is_empty
earlier-preserved-then-not-is_empty c =
    let line = c.args.line.now in
    let h = kept_of c.args.self.now in
    let run = c.run_to-run.result.now in
    let x = standing_at c.earlier.home (relative c.earlier.tree.value) in
    let start = c.earlier.here - length run in
    let within = c.run_to-run.ensures.within in
    let from = c.unsaved_from.ensures.from in
    let to = c.unsaved_from.ensures.to in
    let none : (j : ℕ) → start ≤ j → j < c.earlier.here → h.saved j ≡ None = (λ j above under. ap (option_map (λ t. relative t.value)) (c.unsaved_from.ensures.unsaved j (omega (arith, above, within, to)) under)) in
    let made = c.in_ok-next in
    record {
      from = omega (arith, within, from, to);
      to = omega (arith, c.earlier.invariant.to);
      found = back_over-found line c.requires.sound (lowest line h) h.position (history line h) h c.requires.coherent.along run start c.earlier.here x c.run_to-run.ensures.run
          (omega (arith, within)) (omega (arith, within, from, to, c.requires.from)) c.earlier.invariant.to none c.earlier.invariant.found (standing_at made.to (relative made.next.value)) made.ensures.home made.ensures.tree;
      pool = front-trans (held c.args.pool.now) (held c.earlier.pool) (held c.backward_over.new.pool) c.earlier.invariant.pool
          (front-changed (held c.earlier.pool) (held c.backward_over.new.pool) (relative c.earlier.tree.value) (relative made.next.value) made.ensures.held);
    }

pub returns-clause-at : goal.returns-clause-at
returns-clause-at c =
    let line = c.args.line.now in
    let h = kept_of c.args.self.now in
    let there : c.args.position ≡ c.earlier.here = omega (arith, c.earlier-test.false, c.earlier.invariant.from) in
    at-is line c.requires.sound (lowest line h) h.position (history line h) h c.requires.coherent.along refl c.args.position c.requires.from (omega (arith, c.requires.to))
    ∙ ap (λ k. Some (history line h k)) there ∙ ap (λ x. Some x) (sym c.earlier.invariant.found)
