use Rattle.std.proofs.Common.{◌≡◌, length, None}
use Rattle.std.specs.BTreeMap as tree
use Rattle.grid_store.specs.Keys.{key_cmp}
use Rattle.grid_store.specs.declared.key.CellKey.{CellKey}
use Rattle.grid_store.specs.internal.Drafting.{under}
use Rattle.grid_store.specs.internal.Lists.{or_else}
use Rattle.grid_store.proofs.cells.Cells.keep_all.Given as goal

abbrev pub invariant-loop-key : goal.invariant-loop-key
invariant-loop-key _ l = record {
  over : (k : CellKey) → or_else (under l.list.items k) (tree.get key_cmp l.self k) ≡ or_else (under l.fn.list.items k) (tree.get key_cmp l.fn.self k);
  part : (k : CellKey) → under l.fn.list.items k ≡ None → under l.list.items k ≡ None;
  others : (k : CellKey) → under l.fn.list.items k ≡ None → tree.get key_cmp l.self k ≡ tree.get key_cmp l.fn.self k;
}

abbrev pub decreases-loop-key : goal.decreases-loop-key
decreases-loop-key _ l = length l.list.items
