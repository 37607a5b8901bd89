-- Nodes that an operation bends, by their numbers.
use Rattle.std.specs.Prelude.{◌≡◌, ◌⊎◌, ◌↔◌, ℕ, true, List, IsTrue}
use Rattle.needs_order.specs.Needs as plain
use Rattle.node_links.specs.Nodes.{needs_of}
use Rattle.shift_core.specs.declared.shift.Shift.{Shift}
use Rattle.dep_graph.specs.Bent.{Bends}
use Rattle.dep_graph.specs.declared.net.Net.{Net}
use Rattle.dep_graph.specs.internal.Numbers.{node_at}

-- the first number is linked to the second, the node of which the operation bends
abbrev pub IsBentUser : Shift → Net → ℕ → ℕ → Type 0
IsBentUser s net n m = (plain.has m (needs_of net.links n) ≡ true) × Bends s (node_at net.nodes m)

-- exactly the numbers that are so linked to one of these
abbrev pub AreBentUsers : Shift → Net → List ℕ → List ℕ → Type 0
AreBentUsers s net numbers users = (n : ℕ) → IsTrue (plain.has n users) ↔ ((m : ℕ) × IsTrue (plain.has m numbers) × IsBentUser s net n m)

-- exactly the numbers that are so linked to this one were added
abbrev pub AddsBentUsers : Shift → Net → ℕ → List ℕ → List ℕ → Type 0
AddsBentUsers s net m old new = (n : ℕ) → IsTrue (plain.has n new) ↔ (IsTrue (plain.has n old) ⊎ IsBentUser s net n m)
