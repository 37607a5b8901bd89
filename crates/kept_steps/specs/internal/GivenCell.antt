-- What a cell has for a recalculation, where it holds no formula with a tree, and the nodes of cells and names.
use Rattle.std.specs.Prelude.{Option, Some, unwrap_or}
use Rattle.cell_addr.specs.declared.place.Place.{Place}
use Rattle.cell_addr.specs.declared.place.TheConstants.{NO_SHEET}
use Rattle.cell_value.specs.declared.fault.FaultKind.TheVariants as faults
use Rattle.cell_value.specs.declared.scalar.Scalar.TheVariants as scalar
use Rattle.dep_graph.specs.declared.node.Node.{Node}
use Rattle.dep_graph.specs.declared.node.Node.TheVariants.{Cell, Name}
use Rattle.grid_store.specs.declared.cell.Cell as grid
use Rattle.grid_store.specs.declared.cell.Cell.TheVariants as cell
use Rattle.name_table.specs.declared.key.NameKey.{NameKey}
use Rattle.recalc_core.specs.declared.trees.NodeContent.{NodeContent}
use Rattle.recalc_core.specs.declared.trees.NodeContent.TheVariants.{Nothing, Value}

-- what a cell without a formula that has a tree is given as
abbrev pub given_plain : Option grid.Cell → NodeContent
given_plain (Some (cell.Number m)) = Value (scalar.Number m)
given_plain (Some (cell.Truth b)) = Value (scalar.Truth b)
given_plain (Some (cell.Text w)) = Value (scalar.Text w)
given_plain (Some (cell.Broken w)) = Value (scalar.Fault faults.Error)
given_plain _ = Nothing

-- the node of a filled cell, and that of a name
abbrev pub cell_node : Place × grid.Cell → Node
cell_node e = Cell e.0

abbrev pub name_node : NameKey → Node
name_node key = Name (unwrap_or key.scope NO_SHEET) key.word
