-- Nodes of the graph of needs, and lists of them. Source: this project's own.
use Rattle.std.specs.Prelude.{◌==◌, ◌&&◌, Bool, false, List}
use Rattle.std.specs.List.{list_any}
use Rattle.cell_addr.specs.Place.{covers, same_block, same_place}
use Rattle.cell_addr.specs.Whole.{same_whole, whole_block}
use Rattle.dep_graph.specs.declared.node.Node.{Node}
use Rattle.dep_graph.specs.declared.node.Node.TheVariants.{Cell, Name, Range, Whole}
use Rattle.dep_graph.specs.declared.nodes.Nodes.{Nodes}

-- tests whether two nodes are the same
abbrev pub same_node : Node → Node → Bool
same_node (Cell p) (Cell q) = same_place p q
same_node (Name scope word) (Name other_scope other_word) = scope == other_scope && word == other_word
same_node (Range b) (Range c) = same_block b c
same_node (Whole v) (Whole w) = same_whole v w
same_node _ _ = false

-- the node is one of the list
abbrev pub has : Node → List Node → Bool
has a nodes = list_any (same_node a) nodes

-- the first node is a range, whole or not, and the second a cell that it covers
abbrev pub covers_node : Node → Node → Bool
covers_node (Range b) (Cell p) = covers b p
covers_node (Whole w) (Cell p) = covers (whole_block w) p
covers_node _ _ = false

-- the nodes of a list
abbrev pub items_of : Nodes → List Node
items_of nodes = nodes.list.items
