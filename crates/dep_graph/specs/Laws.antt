-- What a structural operation leaves of the links of nodes that it doesn't bend. Source: this project's own.
use Rattle.std.specs.Prelude.{◌≡◌, List, Some, IsTrue, ⊤}
use Rattle.cell_addr.specs.Place.{IsBlockInside, IsInside}
use Rattle.cell_addr.specs.Whole.{IsWholeInside}
use Rattle.shift_core.specs.Sound.{IsSound}
use Rattle.shift_core.specs.declared.shift.Shift.{Shift}
use Rattle.dep_graph.specs.Bent.{IsBentBy}
use Rattle.dep_graph.specs.Needs.{Links}
use Rattle.dep_graph.specs.Nodes.{has}
use Rattle.dep_graph.specs.Shifted.{AreShifted, node_after, node_before}
use Rattle.dep_graph.specs.declared.node.Node.{Node}
use Rattle.dep_graph.specs.declared.node.Node.TheVariants.{Cell, Name, Range, Whole}

-- the cell or the range is within the limits of a sheet
abbrev pub IsNodeInside : Node → Type 0
IsNodeInside (Cell p) = IsInside p
IsNodeInside (Name scope word) = ⊤
IsNodeInside (Range b) = IsBlockInside b
IsNodeInside (Whole w) = IsWholeInside w

-- so is each node that is linked to another or that another is linked to
abbrev pub AreLinksInside : Links → Type 0
AreLinksInside links = (a b : Node) → IsTrue (has b (links a)) → IsNodeInside a × IsNodeInside b

-- the node is a cell or a name: unlike ranges, no two of them become one
abbrev pub IsNoRange : Node → Type 0
IsNoRange (Range b) = ⊥
IsNoRange (Whole w) = ⊥
IsNoRange (Cell p) = ⊤
IsNoRange (Name scope word) = ⊤

-- the operation moves the first node to the second, and the second goes back to where it was
abbrev pub GoesAndComesBack : Shift → Node → Node → Type 0
GoesAndComesBack s a b = (node_after s a ≡ Some b) × (node_before s b ≡ Some a)

-- the nodes of the second list are those that the nodes of the first went to, none of which is lost
abbrev pub HaveGone : Shift → List Node → List Node → Type 0
HaveGone s old new =
    ((a : Node) → IsTrue (has a old) → (b : Node) × IsTrue (has b new) × GoesAndComesBack s a b)
    × ((b : Node) → IsTrue (has b new) → (a : Node) × IsTrue (has a old) × GoesAndComesBack s a b)

-- an operation leaves the nodes of such a graph within the limits
abbrev pub LinksStayInside : Type 0
LinksStayInside = (s : Shift) (old new : Links) → IsSound s → AreLinksInside old → AreShifted s old new → AreLinksInside new

-- in such a graph a cell or a name that the operation neither loses nor bends is linked to just the nodes that its needs
-- have moved to, and each of these goes back to where it was
abbrev pub UnbentNodesKeepTheirLinks : Type 0
UnbentNodesKeepTheirLinks =
    (s : Shift) (old new : Links) (a after : Node) → IsSound s → AreLinksInside old → IsNodeInside a → IsNoRange a →
    ¬ IsBentBy s old a → node_after s a ≡ Some after → AreShifted s old new → HaveGone s (old a) (new after)
