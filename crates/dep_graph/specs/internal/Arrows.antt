-- The arrows of a net: from a node to its users, from a cell to its slots, and from a slot to the used ranges under it.
use Rattle.std.specs.Prelude.{◌+◌, ◌-◌, ℕ, Bool, List, [], ◌∷◌, ◌++◌, map, filter, length, nat_lt, if◌then◌else◌}
use Rattle.std.specs.List.{filter_map}
use Rattle.node_links.specs.Nodes.{users_of}
use Rattle.dep_graph.specs.declared.files.Files.{Files}
use Rattle.dep_graph.specs.declared.key.Key.{Key}
use Rattle.dep_graph.specs.declared.key.Key.TheVariants.{Cell, Name, Range, Whole}
use Rattle.dep_graph.specs.declared.net.Net.{Net}
use Rattle.dep_graph.specs.declared.node.Node.{Node}
use Rattle.dep_graph.specs.internal.Files.{filed_at, owner_of, slot_total, slots_over}
use Rattle.dep_graph.specs.internal.Keys.{key_of}
use Rattle.dep_graph.specs.internal.Numbers.{count_of, key_at, place_of}

-- the slots that hold a cell
abbrev pub cell_slots : Files → Key → List ℕ
cell_slots files (Cell s) = slots_over files s
cell_slots files (Name scope word) = []
cell_slots files (Range a) = []
cell_slots files (Whole a) = []

-- how many nodes there are; the slots are numbered behind them
abbrev pub node_total : Net → ℕ
node_total net = count_of net.nodes

abbrev pub total : Net → ℕ
total net = node_total net + slot_total net.files

-- the slots of a key, as they are numbered
abbrev pub slots_behind : Net → Key → List ℕ
slots_behind net k = map (λ s. node_total net + s) (cell_slots net.files k)

-- some node is linked to the one of this number
abbrev pub is_used : Net → ℕ → Bool
is_used net n = nat_lt 0 (length (users_of net.links n))

abbrev pub from_node : Net → ℕ → List ℕ
from_node net n = users_of net.links n ++ slots_behind net (key_at net.nodes n)

-- the ranges that are filed under a slot
abbrev pub under_slot : Net → ℕ → List ℕ
under_slot net s = filter_map (owner_of net.files) (filed_at net.files s)

abbrev pub from_slot : Net → ℕ → List ℕ
from_slot net s = filter (is_used net) (under_slot net s)

abbrev pub targets_of : Net → ℕ → List ℕ
targets_of net v = if nat_lt v (node_total net) then from_node net v else from_slot net (v - node_total net)

-- where arrows to what needs a node begin: at its number, or at its slots where it has none
abbrev pub starts_of : Net → Node → List ℕ
starts_of net a = if nat_lt (place_of net.nodes a) (node_total net) then place_of net.nodes a ∷ [] else slots_behind net (key_of net.nodes.lines a)
