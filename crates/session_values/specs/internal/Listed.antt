-- Nodes of a session's workbook that are listed.
use Rattle.std.specs.Prelude.{◌≡◌, ◌≤◌, ℕ, ◌==◌, ◌&&◌, ◌||◌, ◌++◌, ◌∷◌, [], nat_lt, Bool, false, if◌then◌else◌, List, length, map}
use Rattle.std.specs.FinMap as fin
use Rattle.cell_addr.specs.Place.{covers}
use Rattle.cell_addr.specs.declared.place.Block.{Block}
use Rattle.cell_addr.specs.declared.place.Place.{Place}
use Rattle.shift_core.specs.Carried.{destination}
use Rattle.dep_graph.specs.Nodes.{has}
use Rattle.dep_graph.specs.declared.node.Node.{Node}
use Rattle.dep_graph.specs.declared.node.Node.TheVariants as node
use Rattle.grid_store.specs.Grid.{cells_of, within}
use Rattle.grid_store.specs.declared.cell.Cell.{Cell}
use Rattle.kept_steps.specs.declared.session.Session.{Session}

-- the node of a filled cell
abbrev pub cell_node : Place × Cell → Node
cell_node e = node.Cell e.0

-- the filled cells of a block
abbrev pub filled_in : Session → Block → List Node
filled_in s area = map cell_node (fin.entries (within area (cells_of s.book.grid)))

-- the node is a cell of the block; of this row of it; and of that row, left of this column; or in one of the rows above this one
abbrev pub is_node_in : Block → Node → Bool
is_node_in b (node.Cell p) = covers b p
is_node_in b (node.Name scope word) = false
is_node_in b (node.Range c) = false
is_node_in b (node.Whole w) = false

abbrev pub is_node_in_row : Block → ℕ → Node → Bool
is_node_in_row b row (node.Cell p) = covers b p && p.row == row
is_node_in_row b row (node.Name scope word) = false
is_node_in_row b row (node.Range c) = false
is_node_in_row b row (node.Whole w) = false

abbrev pub is_node_before : Block → ℕ → ℕ → Node → Bool
is_node_before b row col (node.Cell p) = (covers b p && p.row == row) && nat_lt p.col col
is_node_before b row col (node.Name scope word) = false
is_node_before b row col (node.Range c) = false
is_node_before b row col (node.Whole w) = false

abbrev pub is_node_above : Block → ℕ → Node → Bool
is_node_above b row (node.Cell p) = covers b p && nat_lt p.row row
is_node_above b row (node.Name scope word) = false
is_node_above b row (node.Range c) = false
is_node_above b row (node.Whole w) = false

-- the node is a cell of a block that is moved, or of where it goes
abbrev pub is_moved_node : Block → Place → Node → Bool
is_moved_node source to a = is_node_in source a || is_node_in (destination source to) a

-- the nodes that pass the test were added
abbrev pub AreAdded : (Node → Bool) → List Node → List Node → Type 0
AreAdded test old new = (a : Node) → has a new ≡ (has a old || test a)

-- the node is a name of the sheet
abbrev pub is_name_of : ℕ → Node → Bool
is_name_of sheet (node.Cell p) = false
is_name_of sheet (node.Name scope word) = scope == sheet
is_name_of sheet (node.Range b) = false
is_name_of sheet (node.Whole w) = false

-- it is one, of a word with a number below this one
abbrev pub is_name_below : ℕ → ℕ → Node → Bool
is_name_below sheet words (node.Cell p) = false
is_name_below sheet words (node.Name scope word) = scope == sheet && nat_lt word words
is_name_below sheet words (node.Range b) = false
is_name_below sheet words (node.Whole w) = false

-- they are the names of the sheet of the first words, as many as they are, of so many words
pub record ListsBelow (sheet words : ℕ) (nodes : List Node) : Type 0 where
  pub within : length nodes ≤ words
  pub all : (a : Node) → has a nodes ≡ is_name_below sheet (length nodes) a

-- the nodes with one more, if it is such a name
abbrev pub with_named : ℕ → Node → List Node → List Node
with_named sheet a nodes = if is_name_of sheet a then nodes ++ a ∷ [] else nodes
