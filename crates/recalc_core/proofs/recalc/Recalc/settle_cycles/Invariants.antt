use Rattle.std.proofs.Common.{◌≡◌, take}
use Rattle.recalc_core.specs.Recalc.{kept_in, marks_in}
use Rattle.recalc_core.specs.internal.UnderWay.{AreCycles, DifferWithin}
use Rattle.recalc_core.proofs.recalc.Recalc.settle_cycles.Given as goal

-- the nodes so far that aren't in the order show the cycle
abbrev pub invariant-nodes : goal.invariant-nodes
invariant-nodes l = record {
  shows : AreCycles (take l.node-index l.nodes) l.order (kept_in l.self);
  within : DifferWithin l.nodes (kept_in l.fn.self) (kept_in l.self);
  marks : marks_in l.self ≡ marks_in l.fn.self;
}
