use Rattle.std.proofs.lemmas.Result.{on_ok_weaker}
use Rattle.grid_store.proofs.Drafts.{change_made}
use Rattle.grid_store.proofs.draft.Draft.change.Goals as goal

pub returns-clause-ok : goal.returns-clause-ok
returns-clause-ok _ c = on_ok_weaker c.set.result (λ made g. change_made g c.args.self.now.changes c.set.new.self c.args.at c.args.change made c.set.ensures.lines) c.set.ensures.ok
