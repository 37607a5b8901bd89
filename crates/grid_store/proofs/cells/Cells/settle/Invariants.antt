use Rattle.std.proofs.Common.{◌≡◌, length}
use Rattle.std.specs.BTreeMap as tree
use Rattle.grid_store.specs.Keys.{key_cmp}
use Rattle.grid_store.specs.declared.key.CellKey.{CellKey}
use Rattle.grid_store.specs.internal.Drafting.{AreAllKept, under}
use Rattle.grid_store.specs.internal.Lists.{or_else}
use Rattle.grid_store.proofs.cells.Cells.settle.Given as goal

abbrev pub invariant-loop-key : goal.invariant-loop-key
invariant-loop-key _ l = record {
  over : (k : CellKey) → or_else (under l.list.items k) (tree.get key_cmp l.self k) ≡ or_else (under l.fn.list.items k) (tree.get key_cmp l.fn.self k);
  kept : AreAllKept l.list.items l.self;
}

abbrev pub decreases-loop-key : goal.decreases-loop-key
decreases-loop-key _ l = length l.list.items
