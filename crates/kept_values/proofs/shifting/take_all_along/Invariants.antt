use Rattle.std.proofs.Common.{◌≡◌, take}
use Rattle.recalc_core.specs.Recalc.{kept_in, marks_in}
use Rattle.kept_values.specs.internal.TakenAlong.{AddsTaken}
use Rattle.kept_values.proofs.shifting.take_all_along.Given as goal

-- the nodes so far were taken along
abbrev pub invariant-nodes : goal.invariant-nodes
invariant-nodes l = record {
  taken : AddsTaken l.s (take l.node-index l.nodes) (marks_in l.fn.recalc) (marks_in l.recalc);
  kept : kept_in l.recalc ≡ kept_in l.fn.recalc;
}
