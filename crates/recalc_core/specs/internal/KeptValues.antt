-- Kept values as a finite map.
use Rattle.std.specs.HashMap as hash
use Rattle.dep_graph.specs.Nodes.{same_node}
use Rattle.grid_store.specs.Grid.{cells_of}
use Rattle.recalc_core.specs.Kept.{Kept}
use Rattle.recalc_core.specs.declared.kept.KeptValues.{KeptValues}
use Rattle.recalc_core.specs.internal.KeptTables.{held}

-- the value of each node
abbrev pub kept_by : KeptValues → Kept
kept_by k = held (cells_of k.cells) (hash.get same_node k.beyond) (hash.get same_node k.names)
