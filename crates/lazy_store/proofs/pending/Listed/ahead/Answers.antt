use Rattle.std.proofs.Common.{◌≡◌, ◌+◌, ◌-◌, sym, subst, arith, drop}
use Rattle.shift_line.specs.Track.{IsRun}
use Rattle.lazy_store.proofs.Runs.{run-behind}
use Rattle.lazy_store.proofs.pending.Listed.ahead.Goals as goal

pub returns-clause-run : goal.returns-clause-run
returns-clause-run c = λ line to listed.
    let here = c.args.self.now in
    let skipped = c.args.from - here.first in
    let at : here.first + skipped ≡ c.args.from = omega arith in
    let same : drop skipped here.lists.run.items ≡ drop c.of.result.from c.of.result.lists.now.run.items = λ i. drop (sym c.of.ensures.from i) (sym c.of.ensures.lists i).run.items in
    subst (λ k. IsRun line k (drop c.of.result.from c.of.result.lists.now.run.items)) at
    (subst (IsRun line (here.first + skipped)) same (run-behind line skipped here.first here.lists.run.items listed.run))
