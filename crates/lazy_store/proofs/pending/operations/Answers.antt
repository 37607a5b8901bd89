use Rattle.std.proofs.Common.{◌≡◌, ◌+◌, ◌∙◌, sym, ap, subst, arith, length, length-append, [], ◌∷◌, Some}
use Rattle.shift_line.specs.Track.{IsRun, shift_at}
use Rattle.lazy_store.proofs.Runs.{run-push}
use Rattle.lazy_store.proofs.pending.operations.Goals as goal

pub operations-preserved : goal.operations-preserved
operations-preserved c =
    let line = c.args.line.now in
    let run = c.operations.run.items in
    let s = c.in-Some.s in
    let so_far = c.operations.invariant in
    let long : length c.push.new.self.items ≡ length run + 1 = ap length c.in_ok-push.ensures.items ∙ length-append run (s ∷ []) in
    record {
      run = subst (IsRun line c.args.from) (sym c.in_ok-push.ensures.items) (run-push line run c.args.from s so_far.run (subst (λ k. shift_at line k ≡ Some s) (sym so_far.here) (sym c.in-Some.ensures)));
      here = omega (arith, long, so_far.here);
    }
