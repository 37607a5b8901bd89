use Rattle.std.proofs.Common.{◌≡◌, cond, drop, None}
use Rattle.std.specs.BTreeMap as tree
use Rattle.grid_store.specs.Draft.{is_one_of}
use Rattle.grid_store.specs.Keys.{key_cmp}
use Rattle.grid_store.specs.declared.key.CellKey.{CellKey}
use Rattle.grid_store.proofs.cells.Cells.leave.Given as goal

abbrev pub invariant-loop-key : goal.invariant-loop-key
invariant-loop-key _ l = (k : CellKey) → cond (is_one_of (drop l.key-index l.keys) k) None (tree.get key_cmp l.self k) ≡ cond (is_one_of l.keys k) None (tree.get key_cmp l.fn.self k)
