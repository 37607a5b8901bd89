-- Where structural operations move the nodes of the graph, and their links. Source: this project's own.
use Rattle.std.specs.Prelude.{◌≡◌, ◌↔◌, Option, Some, option_map, IsTrue}
use Rattle.shift_core.specs.Tables.{block_after, block_before, place_after, place_before}
use Rattle.shift_core.specs.Wholes.{whole_after, whole_before}
use Rattle.shift_core.specs.declared.shift.Shift.{Shift}
use Rattle.dep_graph.specs.Needs.{Links}
use Rattle.dep_graph.specs.Nodes.{has}
use Rattle.dep_graph.specs.declared.node.Node.{Node}
use Rattle.dep_graph.specs.declared.node.Node.TheVariants.{Cell, Name, Range, Whole}

-- where a node stands after an operation: that of a lost place, block or whole range is nowhere, and a name stays
abbrev pub node_after : Shift → Node → Option Node
node_after s (Cell p) = option_map Cell (place_after s p)
node_after s (Name scope word) = Some (Name scope word)
node_after s (Range b) = option_map Range (block_after s b)
node_after s (Whole w) = option_map Whole (whole_after s w)

-- where a node that stands here was before an operation: a cell by its place, a range by its ends, and a name stays
abbrev pub node_before : Shift → Node → Option Node
node_before s (Cell p) = option_map Cell (place_before s p)
node_before s (Name scope word) = Some (Name scope word)
node_before s (Range b) = option_map Range (block_before s b)
node_before s (Whole w) = option_map Whole (whole_before s w)

-- exactly the links between nodes that stand somewhere after the operation: a lost node goes with its links, and where
-- two ranges become one, that has the needs and the users of both
abbrev pub AreShifted : Shift → Links → Links → Type 0
AreShifted s old new =
    (a b : Node) → IsTrue (has b (new a)) ↔ ((x : Node) × (y : Node) × IsTrue (has y (old x)) × (node_after s x ≡ Some a) × (node_after s y ≡ Some b))
