-- Which nodes use a cell: those that are linked to it, or to a range that covers it. Source: this project's own.
use Rattle.std.specs.Prelude.{◌↔◌, Bool, false, List, IsTrue}
use Rattle.cell_addr.specs.Place.{covers, same_place}
use Rattle.cell_addr.specs.Whole.{whole_block}
use Rattle.cell_addr.specs.declared.place.Place.{Place}
use Rattle.dep_graph.specs.Needs.{Links}
use Rattle.dep_graph.specs.Nodes.{has}
use Rattle.dep_graph.specs.Walks.{IsOnce}
use Rattle.dep_graph.specs.declared.node.Node.{Node}
use Rattle.dep_graph.specs.declared.node.Node.TheVariants.{Cell, Name, Range, Whole}

-- the node is the cell at a place, or a range, whole or not, that covers it
abbrev pub is_over : Place → Node → Bool
is_over p (Cell q) = same_place q p
is_over p (Name scope word) = false
is_over p (Range b) = covers b p
is_over p (Whole w) = covers (whole_block w) p

-- the node is linked to one that is
abbrev pub IsUserOf : Place → Links → Node → Type 0
IsUserOf p links a = (b : Node) × IsTrue (has b (links a)) × IsTrue (is_over p b)

-- exactly those nodes, each once
abbrev pub AreUsers : Place → Links → List Node → Type 0
AreUsers p links nodes = ((a : Node) → IsTrue (has a nodes) ↔ IsUserOf p links a) × IsOnce nodes

-- exactly the nodes that are linked to this one, each once
abbrev pub AreLinkedTo : Node → Links → List Node → Type 0
AreLinkedTo a links nodes = ((b : Node) → IsTrue (has b nodes) ↔ IsTrue (has a (links b))) × IsOnce nodes
