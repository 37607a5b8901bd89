use Rattle.std.proofs.Common.{take}
use Rattle.recalc_core.specs.internal.Gone.{AreGone}
use Rattle.recalc_core.specs.internal.Marks.{marked_by}
use Rattle.recalc_core.proofs.shifting.gone_marks.Given as goal

-- what the nodes so far have become is marked
abbrev pub invariant-nodes : goal.invariant-nodes
invariant-nodes l = AreGone l.s (take l.node-index l.nodes) (marked_by l.marks)
