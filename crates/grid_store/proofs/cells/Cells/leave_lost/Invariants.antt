use Rattle.std.proofs.Common.{◌≡◌, cond, drop, None}
use Rattle.std.specs.BTreeMap as tree
use Rattle.grid_store.specs.Keys.{key_cmp}
use Rattle.grid_store.specs.declared.key.CellKey.{CellKey}
use Rattle.grid_store.specs.internal.Drafting.{is_gone}
use Rattle.grid_store.proofs.cells.Cells.leave_lost.Given as goal

abbrev pub invariant-loop-key : goal.invariant-loop-key
invariant-loop-key _ l = (k : CellKey) → cond (is_gone l.rows l.cols (drop l.key-index l.keys) k) None (tree.get key_cmp l.self k) ≡ cond (is_gone l.rows l.cols l.keys k) None (tree.get key_cmp l.fn.self k)
