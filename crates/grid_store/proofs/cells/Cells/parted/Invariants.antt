use Rattle.std.proofs.Common.{◌≡◌, ◌++◌}
use Rattle.std.specs.BTreeMap.{IsOrdered}
use Rattle.grid_store.specs.Keys.{key_cmp}
use Rattle.grid_store.specs.internal.Drafting.{emptied_of, fresh_of, over_of}
use Rattle.grid_store.proofs.cells.Cells.parted.Given as goal

abbrev pub invariant-loop-key : goal.invariant-loop-key
invariant-loop-key _ l = record {
  fresh : l.parts.fresh.items ++ fresh_of l.self l.key-iterator ≡ fresh_of l.self l.fn.changes.entries;
  over : l.parts.over.items ++ over_of l.self l.key-iterator ≡ over_of l.self l.fn.changes.entries;
  emptied : l.parts.emptied.items ++ emptied_of l.key-iterator ≡ emptied_of l.fn.changes.entries;
  ordered : IsOrdered key_cmp l.fn.changes;
}
