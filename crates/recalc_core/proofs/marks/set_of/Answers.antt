use Rattle.recalc_core.proofs.UnderWay.{set_more}
use Rattle.recalc_core.proofs.marks.set_of.Goals as goal

pub nodes-preserved : goal.nodes-preserved
nodes-preserved c = λ a. set_more c.args.nodes.now c.nodes.node-index _ a _ _ c.nodes-test.true (c.nodes.invariant a) (c.in_ok-insert.ensures.updates.0 a)
