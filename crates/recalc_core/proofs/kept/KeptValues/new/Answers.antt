use Rattle.std.proofs.Common.{ap}
use Rattle.std.specs.HashMap as hash
use Rattle.std.specs.Map.{lookup}
use Rattle.grid_store.specs.Grid.{cells_of}
use Rattle.dep_graph.specs.Nodes.{same_node}
use Rattle.recalc_core.proofs.Held.{held_nothing}
use Rattle.recalc_core.proofs.kept.KeptValues.new.Goals as goal

pub returns : goal.returns
returns c =
    held_nothing (cells_of c.in_ok-new.field-0) (hash.get same_node c.new-2.result) (hash.get same_node c.new-3.result) c.in_ok-new.ensures
    (λ a. ap (lookup (same_node a)) c.new-2.ensures.empty) (λ a. ap (lookup (same_node a)) c.new-3.ensures.empty)
