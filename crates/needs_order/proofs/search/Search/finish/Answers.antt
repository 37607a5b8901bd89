use Rattle.std.proofs.lemmas.Result.{on_ok_weaker}
use Rattle.needs_order.proofs.Steps.{goes_on_closing, goes_on_merging}
use Rattle.needs_order.proofs.search.Search.finish.Goals as goal

pub returns-then-visit : goal.returns-then-visit
returns-then-visit c = λ lists sound done. goes_on_merging lists c.args.self.now c.lower_last.new.visits c.args.visit sound done c.if-visit.true c.lower_last.ensures

pub returns : goal.returns
returns c = λ lists sound done. on_ok_weaker c.close.result (goes_on_closing lists c.args.self.now c.close.new.self c.args.visit sound done c.if-visit.false) c.close.ensures
