use Rattle.std.proofs.Common.{◌≡◌, ◌+◌, ◌≤◌, take}
use Rattle.std.specs.List.{sum_by}
use Rattle.recalc_core.specs.Recalc.{kept_in, marks_in}
use Rattle.recalc_core.specs.Steps.{node_cost}
use Rattle.recalc_core.specs.internal.UnderWay.{DifferWithin, IsUnderWay}
use Rattle.recalc_core.proofs.recalc.Recalc.renew_all.Given as goal

-- the nodes so far are right, within what they cost
abbrev pub invariant-nodes : goal.invariant-nodes
invariant-nodes g l = record {
  way : IsUnderWay (g.T.Trees.workbook l.fn.trees) (g.T.Trees.words l.fn.trees) (g.C.Customs.customs l.customs) l.day l.order l.node-index (kept_in l.self);
  within : DifferWithin l.order (kept_in l.fn.self) (kept_in l.self);
  least : l.fn.steps ≤ l.steps;
  most : l.steps ≤ l.fn.steps + sum_by (node_cost (g.T.Trees.workbook l.fn.trees) (g.T.Trees.words l.fn.trees) (g.C.Customs.customs l.customs) l.day) (take l.node-index l.order);
  marks : marks_in l.self ≡ marks_in l.fn.self;
  leaves : g.T.Trees.workbook l.trees ≡ g.T.Trees.workbook l.fn.trees;
  words : g.T.Trees.words l.trees ≡ g.T.Trees.words l.fn.trees;
  reads : g.T.Trees.leaves l.fn.trees l.trees;
}
