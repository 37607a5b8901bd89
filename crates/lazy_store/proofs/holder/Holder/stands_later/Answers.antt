use Rattle.std.proofs.Common.{◌≡◌, ◌∙◌, sym, ap, refl, rules, arith, ◌+◌, eqb-true, length, None, is_some}
use Rattle.run_walk.specs.Run.{home_over, tree_over}
use Rattle.lazy_store.specs.Holders.{kept_of}
use Rattle.lazy_store.specs.Kept.{standing}
use Rattle.lazy_store.proofs.Histories.{at_tree}
use Rattle.lazy_store.proofs.Runs.{no-run, run-found, run-lost, run-sound}
use Rattle.lazy_store.proofs.Stepping.{ends-there, none-further, none-past}
use Rattle.lazy_store.proofs.Stores.{at-own}
use Rattle.lazy_store.proofs.holder.Holder.stands_later.Goals as goal

pub later-init : goal.later-init
later-init c =
    let h = kept_of c.args.self.now in
    record { from = omega arith; to = c.requires.from; found = (standing h, refl, at-own c.args.line.now h h.position refl) }

pub returns-then-is_empty : goal.returns-then-is_empty
returns-then-is_empty c =
    let line = c.args.line.now in
    let run = c.run_from-run.result.now in
    let x = c.later.invariant.found.0 in
    let none : length run ≡ 0 = eqb-true (length run) 0 (sym c.if-is_empty.ensures) in
    sym (ap is_some (none-further line (kept_of c.args.self.now) c.later.here c.args.position x c.later.invariant.from c.later-test.true c.later.invariant.found.2
    (ends-there line c.later.here x (no-run line c.later.here c.args.position run c.run_from-run.ensures.some c.later-test.true none))))

pub home_over-requires : goal.home_over-requires
home_over-requires c = run-sound c.args.line.now c.later.here c.run_from-run.result.now c.requires.sound c.run_from-run.ensures.run

pub returns-in_default : goal.returns-in_default
returns-in_default c =
    let line = c.args.line.now in
    let h = kept_of c.args.self.now in
    let run = c.run_from-run.result.now in
    let x = c.later.invariant.found.0 in
    let gone : home_over run c.later.home ≡ None = search rules in
    let lost : home_over run x.home ≡ None = ap (home_over run) c.later.invariant.found.1 ∙ gone in
    let within = c.run_from-run.ensures.within in
    sym (ap is_some (none-past line h (c.later.here + length run) c.args.position (omega (arith, c.later.invariant.from)) (omega (arith, within, c.later-test.true))
    (run-lost line h c.later.here run x c.later.invariant.from c.later.invariant.found.2 c.run_from-run.ensures.run lost)))

pub later-preserved : goal.later-preserved
later-preserved c =
    let line = c.args.line.now in
    let h = kept_of c.args.self.now in
    let run = c.run_from-run.result.now in
    let x = c.later.invariant.found.0 in
    let to = c.in-Some.next in
    let goes = ap (home_over run) c.later.invariant.found.1 ∙ sym c.in-Some.ensures in
    let tree = tree_over run x.tree in
    let within = c.run_from-run.ensures.within in
    record {
      from = omega (arith, c.later.invariant.from);
      to = omega (arith, c.later-test.true, within);
      found = (at_tree to tree, refl, run-found line h c.later.here run x c.later.invariant.from c.later.invariant.found.2 c.run_from-run.ensures.run to tree goes refl);
    }
