-- Marks as a list.
use Rattle.std.specs.Prelude.{List}
use Rattle.dep_graph.specs.Nodes.{items_of}
use Rattle.dep_graph.specs.declared.node.Node.{Node}
use Rattle.recalc_core.specs.declared.marks.Marks.{Marks}

-- the marked nodes, in the order in which they were marked
abbrev pub marked_by : Marks → List Node
marked_by m = items_of m.list
