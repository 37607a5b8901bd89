use Rattle.std.proofs.Common.{◌≡◌, ◌∙◌, sym, ap, refl, subst, arith, ℕ, ◌-◌, ◌<◌, ◌≤◌, length, max, take, None, option_map}
use Rattle.std.proofs.lemmas.List.{length-take-le}
use Rattle.formula_tree.specs.Pooled.{held}
use Rattle.formula_tree.specs.Relative.{relative}
use Rattle.shift_line.specs.Track.{shift_at}
use Rattle.lazy_store.specs.Holders.{kept_of}
use Rattle.lazy_store.specs.Kept.{history, lowest, standing}
use Rattle.lazy_store.specs.internal.Pending.{shifts_of}
use Rattle.lazy_store.specs.internal.Steps.{GoesAlong}
use Rattle.lazy_store.proofs.Passing.{back-home, goes-back, goes-on}
use Rattle.lazy_store.proofs.Reaching.{reaches, went-along}
use Rattle.lazy_store.proofs.Runs.{goes-back-over, goes-over, over-home, over_back-home, run-front, run-sound}
use Rattle.lazy_store.proofs.Stepping.{front-refl, front-trans, lowest-below}
use Rattle.lazy_store.proofs.holder.Holder.go_to.Goals as goal

pub forward-init : goal.forward-init
forward-init c = record {
  along = reaches c.args.line.now (kept_of c.args.self.now) c.requires.sound c.requires.coherent c.args.position c.requires.there;
  birth = refl;
  live = refl;
  pool = front-refl (held c.args.pool.now);
}

pub forward-preserved : goal.forward-preserved
forward-preserved c =
    let line = c.args.line.now in
    let h = kept_of c.args.self.now in
    let so_far = c.forward.invariant in
    let goes = c.in_ok-go_on.ensures.ok in
    record {
      along = goes-on line (lowest line h) (max h.position c.args.position) (history line h) (kept_of c.forward.self) (kept_of c.go_on.new.self) c.in-Some.s so_far.along (sym c.in-Some.ensures) (omega (arith, c.forward-test.true)) goes;
      birth = goes.birth ∙ so_far.birth;
      live = goes.live ∙ so_far.live;
      pool = front-trans (held c.args.pool.now) (held c.forward.pool) (held c.go_on.new.pool) so_far.pool c.go_on.ensures.pool;
    }

pub free_by-free-requires-clause-sound : goal.free_by-free-requires-clause-sound
free_by-free-requires-clause-sound c = run-sound c.args.line.now c.forward.self.position (shifts_of c.between-pending.result) c.requires.sound c.between-pending.ensures.run

pub go_over-requires-clause-sound : goal.go_over-requires-clause-sound
go_over-requires-clause-sound c = run-sound c.args.line.now c.forward.self.position (shifts_of c.between-pending.result) c.requires.sound c.between-pending.ensures.run

pub go_over-requires-clause-room : goal.go_over-requires-clause-room
go_over-requires-clause-room c =
    let short = length-take-le c.free_by-free.result (shifts_of c.between-pending.result) c.free_by-free.ensures.within in
    omega (arith, short, c.free_by-free.ensures.within, c.between-pending.ensures.within, c.forward-test.true)

pub go_over-requires-clause-kept : goal.go_over-requires-clause-kept
go_over-requires-clause-kept c =
    let line = c.args.line.now in
    let h = kept_of c.args.self.now in
    let short = length-take-le c.free_by-free.result (shifts_of c.between-pending.result) c.free_by-free.ensures.within in
    over-home line (lowest line h) (max h.position c.args.position) (history line h) (kept_of c.forward.self) (take c.free_by-free.result (shifts_of c.between-pending.result)) c.forward.invariant.along
    (run-front line c.free_by-free.result c.forward.self.position (shifts_of c.between-pending.result) c.between-pending.ensures.run)
    (omega (arith, short, c.free_by-free.ensures.within, c.between-pending.ensures.within, c.forward-test.true))

pub forward-preserved-then-free-gt0 : goal.forward-preserved-then-free-gt0
forward-preserved-then-free-gt0 c =
    let line = c.args.line.now in
    let h = kept_of c.args.self.now in
    let so_far = c.forward.invariant in
    let goes = c.in_ok-go_over.ensures.ok in
    let short = length-take-le c.free_by-free.result (shifts_of c.between-pending.result) c.free_by-free.ensures.within in
    record {
      along = goes-over line (lowest line h) (max h.position c.args.position) (history line h) (kept_of c.forward.self) (take c.free_by-free.result (shifts_of c.between-pending.result)) so_far.along
          (run-front line c.free_by-free.result c.forward.self.position (shifts_of c.between-pending.result) c.between-pending.ensures.run)
          (omega (arith, short, c.free_by-free.ensures.within, c.between-pending.ensures.within, c.forward-test.true)) (kept_of c.go_over.new.self) c.free_by-free.ensures.free goes;
      birth = goes.birth ∙ so_far.birth;
      live = goes.live ∙ so_far.live;
      pool = front-trans (held c.args.pool.now) (held c.forward.pool) (held c.go_over.new.pool) so_far.pool c.go_over.ensures.pool;
    }

pub returns-in_err-go_over-clause-along : goal.returns-in_err-go_over-clause-along
returns-in_err-go_over-clause-along c =
    let line = c.args.line.now in
    let h = kept_of c.args.self.now in
    let so_far = c.forward.invariant in
    subst (GoesAlong line h) (sym c.in_err-go_over.ensures.err)
    (went-along line c.args.position h (kept_of c.forward.self) c.requires.sound c.requires.coherent c.requires.there c.requires.within so_far.along so_far.birth so_far.live)

pub returns-in_err-go_on-clause-along : goal.returns-in_err-go_on-clause-along
returns-in_err-go_on-clause-along c =
    let line = c.args.line.now in
    let h = kept_of c.args.self.now in
    let so_far = c.forward.invariant in
    subst (GoesAlong line h) (sym c.in_err-go_on.ensures.err)
    (went-along line c.args.position h (kept_of c.forward.self) c.requires.sound c.requires.coherent c.requires.there c.requires.within so_far.along so_far.birth so_far.live)

pub go_back_over-requires-clause-sound : goal.go_back_over-requires-clause-sound
go_back_over-requires-clause-sound c =
    let run = c.run_to-passed.result.now in
    run-sound c.args.line.now (c.back.self.position - length run) run c.requires.sound c.run_to-passed.ensures.run

pub go_back_over-requires-clause-kept : goal.go_back_over-requires-clause-kept
go_back_over-requires-clause-kept c =
    let line = c.args.line.now in
    let h = kept_of c.args.self.now in
    let run = c.run_to-passed.result.now in
    let least = lowest-below line h c.args.position c.requires.coherent c.requires.there in
    let start = c.back.self.position - length run in
    let within = c.run_to-passed.ensures.within in
    let from = c.unsaved_from.ensures.from in
    let to = c.unsaved_from.ensures.to in
    let none : (j : ℕ) → start ≤ j → j < c.back.self.position → (kept_of c.back.self).saved j ≡ None = (λ j above under. ap (option_map (λ t. relative t.value)) (c.unsaved_from.ensures.unsaved j (omega (arith, above, within, to)) under)) in
    over_back-home line c.requires.sound (lowest line h) (max h.position c.args.position) (history line h) (kept_of c.back.self) c.back.invariant.along run c.run_to-passed.ensures.run (omega (arith, within)) (omega (arith, within, from, to, least)) none

pub back-preserved-then-not-is_empty : goal.back-preserved-then-not-is_empty
back-preserved-then-not-is_empty c =
    let line = c.args.line.now in
    let h = kept_of c.args.self.now in
    let so_far = c.back.invariant in
    let run = c.run_to-passed.result.now in
    let least = lowest-below line h c.args.position c.requires.coherent c.requires.there in
    let start = c.back.self.position - length run in
    let within = c.run_to-passed.ensures.within in
    let from = c.unsaved_from.ensures.from in
    let to = c.unsaved_from.ensures.to in
    let none : (j : ℕ) → start ≤ j → j < c.back.self.position → (kept_of c.back.self).saved j ≡ None = (λ j above under. ap (option_map (λ t. relative t.value)) (c.unsaved_from.ensures.unsaved j (omega (arith, above, within, to)) under)) in
    let goes = c.in_ok-go_back_over.ensures.ok in
    let step = goes.position in
    record {
      along = goes-back-over line c.requires.sound (lowest line h) (max h.position c.args.position) (history line h) (kept_of c.back.self) so_far.along run c.run_to-passed.ensures.run (omega (arith, within)) (omega (arith, within, from, to, least)) none (kept_of c.go_back_over.new.self) goes;
      birth = goes.birth ∙ so_far.birth;
      live = goes.live ∙ so_far.live;
      past = omega (arith, step, within, from, to);
      pool = front-trans (held c.args.pool.now) (held c.back.pool) (held c.go_back_over.new.pool) so_far.pool c.go_back_over.ensures.pool;
    }

pub returns-in_err-go_back_over-clause-along : goal.returns-in_err-go_back_over-clause-along
returns-in_err-go_back_over-clause-along c =
    let line = c.args.line.now in
    let h = kept_of c.args.self.now in
    let so_far = c.back.invariant in
    subst (GoesAlong line h) (sym c.in_err-go_back_over.ensures.err)
    (went-along line c.args.position h (kept_of c.back.self) c.requires.sound c.requires.coherent c.requires.there c.requires.within so_far.along so_far.birth so_far.live)

pub go_back-requires-clause-kept : goal.go_back-requires-clause-kept
go_back-requires-clause-kept c =
    let line = c.args.line.now in
    let h = kept_of c.args.self.now in
    let so_far = c.back.invariant in
    let least = lowest-below line h c.args.position c.requires.coherent c.requires.there in
    back-home line c.requires.sound (lowest line h) (max h.position c.args.position) (history line h) (kept_of c.back.self) so_far.along c.back.self.position c.in-Some-at.s (standing (kept_of c.back.self))
    (omega (arith, least, c.back-test.true)) (omega arith) (sym c.in-Some-at.ensures) so_far.along.here

pub back-preserved : goal.back-preserved
back-preserved c =
    let line = c.args.line.now in
    let h = kept_of c.args.self.now in
    let so_far = c.back.invariant in
    let least = lowest-below line h c.args.position c.requires.coherent c.requires.there in
    let goes = c.in_ok-go_back.ensures.ok in
    let step = goes.position in
    let place : c.go_back.new.self.position ≡ c.back.self.position - 1 = omega (arith, step) in
    record {
      along = goes-back line (lowest line h) (max h.position c.args.position) (history line h) (kept_of c.back.self) (kept_of c.go_back.new.self) c.in-Some-at.s c.requires.sound so_far.along
          (ap (shift_at line) place ∙ sym c.in-Some-at.ensures) (omega (arith, least, c.back-test.true)) goes;
      birth = goes.birth ∙ so_far.birth;
      live = goes.live ∙ so_far.live;
      past = omega (arith, step, c.back-test.true);
      pool = front-trans (held c.args.pool.now) (held c.back.pool) (held c.go_back.new.pool) so_far.pool c.go_back.ensures.pool;
    }

pub returns-in_err-go_back-clause-along : goal.returns-in_err-go_back-clause-along
returns-in_err-go_back-clause-along c =
    let line = c.args.line.now in
    let h = kept_of c.args.self.now in
    let so_far = c.back.invariant in
    subst (GoesAlong line h) (sym c.in_err-go_back.ensures.err)
    (went-along line c.args.position h (kept_of c.back.self) c.requires.sound c.requires.coherent c.requires.there c.requires.within so_far.along so_far.birth so_far.live)

pub returns-clause-along : goal.returns-clause-along
returns-clause-along c =
    let line = c.args.line.now in
    let h = kept_of c.args.self.now in
    let so_far = c.back.invariant in
    went-along line c.args.position h (kept_of c.back.self) c.requires.sound c.requires.coherent c.requires.there c.requires.within so_far.along so_far.birth so_far.live
