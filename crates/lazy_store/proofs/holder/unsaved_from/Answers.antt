use Rattle.lazy_store.proofs.Stepping.{none-behind}
use Rattle.lazy_store.proofs.holder.unsaved_from.Goals as goal

pub returns-in-Some-clause-unsaved : goal.returns-in-Some-clause-unsaved
returns-in-Some-clause-unsaved c =
    none-behind c.args.saved.now c.args.from c.args.to c.in-Some.last.now c.in-Some.field-0-1.now c.next_back.new.self c.range.result (c.range.ensures.in_range tt) c.in-Some.ensures.steps
