use Rattle.std.proofs.Common.{◌≡◌, ◌++◌}
use Rattle.std.specs.BTreeMap.{IsOrdered}
use Rattle.grid_store.specs.Keys.{key_cmp}
use Rattle.grid_store.proofs.copy.copied_cells.Given as goal

abbrev pub invariant-loop-key : goal.invariant-loop-key
invariant-loop-key _ l = record { parts : l.copy.entries ++ l.key-iterator ≡ l.cells.entries; ordered : IsOrdered key_cmp l.cells }
