use Rattle.std.proofs.lemmas.Result.{on_ok_weaker}
use Rattle.recalc_core.specs.Recalc.{kept_in}
use Rattle.recalc_core.proofs.Touched.{put_there}
use Rattle.recalc_core.proofs.recalc.Recalc.settle_cycle.Goals as goal

pub returns-in-Cell-clause-shows : goal.returns-in-Cell-clause-shows
returns-in-Cell-clause-shows c = on_ok_weaker c.settle.result (λ put plain. put_there c.args.a _ (kept_in c.args.self.now) (kept_in c.settle.new.self) put) c.settle.ensures.ok

pub returns-in-Name-clause-shows : goal.returns-in-Name-clause-shows
returns-in-Name-clause-shows c = on_ok_weaker c.settle-in-Name.result (λ put plain. put_there c.args.a _ (kept_in c.args.self.now) (kept_in c.settle-in-Name.new.self) put) c.settle-in-Name.ensures.ok
