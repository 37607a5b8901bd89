use Rattle.std.proofs.Common.{◌∙◌, sym}
use Rattle.stable_lines.proofs.Seeking.{item_fits, none_from}
use Rattle.stable_lines.proofs.composed.push_after.Goals as goal

pub returns-then-end-next : goal.returns-then-end-next
returns-then-end-next c =
    sym (none_from c.loop-next.next-index c.args.run c.args.second.now _ c.loop-next.table.items c.requires.second c.loop-next-test.true c.if-end-next.true)
    ∙ c.loop-next.invariant

pub part-requires-clause-next : goal.part-requires-clause-next
part-requires-clause-next c = item_fits c.loop-next.next-index c.args.second.now _ c.requires.second c.loop-next-test.true
