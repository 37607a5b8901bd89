-- The numbers of nodes that use a cell.
use Rattle.std.specs.Prelude.{◌↔◌, ℕ, List, [], ◌∷◌, ◌++◌, nat_lt, if◌then◌else◌, IsTrue}
use Rattle.std.specs.List.{flat_map}
use Rattle.cell_addr.specs.declared.place.Place.{Place}
use Rattle.needs_order.specs.Needs.{has}
use Rattle.node_links.specs.Nodes.{needs_of}
use Rattle.dep_graph.specs.declared.net.Net.{Net}
use Rattle.dep_graph.specs.declared.node.Node.{Node}
use Rattle.dep_graph.specs.declared.node.Node.TheVariants.{Cell}
use Rattle.dep_graph.specs.internal.Arrows.{cell_slots, from_slot, node_total}
use Rattle.dep_graph.specs.internal.Keys.{key_of}
use Rattle.dep_graph.specs.internal.Numbers.{place_of}

-- the number of a node, where it has one
abbrev pub own_number : Net → Node → List ℕ
own_number net a = if nat_lt (place_of net.nodes a) (node_total net) then place_of net.nodes a ∷ [] else []

-- the number of a cell, where it has one, and those of the used ranges that are filed under its slots
abbrev pub numbers_over : Net → Place → List ℕ
numbers_over net p = own_number net (Cell p) ++ flat_map (from_slot net) (cell_slots net.files (key_of net.nodes.lines (Cell p)))

-- exactly the numbers that are linked to one of these
abbrev pub AreUsersOf : Net → List ℕ → List ℕ → Type 0
AreUsersOf net numbers users = (n : ℕ) → IsTrue (has n users) ↔ ((m : ℕ) × IsTrue (has m numbers) × IsTrue (has m (needs_of net.links n)))
