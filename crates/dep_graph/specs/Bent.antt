-- Which nodes a structural operation bends: those that are linked to a cell that it loses, or to a range that it doesn't
-- just carry along. Source: this project's own.
use Rattle.std.specs.Prelude.{◌≡◌, ◌⊎◌, ◌↔◌, List, None, IsTrue}
use Rattle.shift_core.specs.Bent.{IsBent, IsCut}
use Rattle.shift_core.specs.Tables.{place_after}
use Rattle.shift_core.specs.Wholes.{IsWholeBent}
use Rattle.shift_core.specs.declared.shift.Shift.{Shift}
use Rattle.dep_graph.specs.Needs.{Links}
use Rattle.dep_graph.specs.Nodes.{has}
use Rattle.dep_graph.specs.Walks.{IsOnce}
use Rattle.dep_graph.specs.declared.node.Node.{Node}
use Rattle.dep_graph.specs.declared.node.Node.TheVariants.{Cell, Name, Range, Whole}

-- the cell is lost, or the range is lost, changes its size, meets displaced lines or is cut at the sheet's end; so is the
-- block of a whole range, or lines across it are edited on its sheet
abbrev pub Bends : Shift → Node → Type 0
Bends s (Cell p) = place_after s p ≡ None
Bends s (Name scope word) = ⊥
Bends s (Range b) = IsBent s b ⊎ IsCut s b
Bends s (Whole w) = IsWholeBent s w

-- the node is linked to one that the operation bends
abbrev pub IsBentBy : Shift → Links → Node → Type 0
IsBentBy s links a = (b : Node) × IsTrue (has b (links a)) × Bends s b

-- exactly those nodes, each once
abbrev pub AreBent : Shift → Links → List Node → Type 0
AreBent s links nodes = ((a : Node) → IsTrue (has a nodes) ↔ IsBentBy s links a) × IsOnce nodes
