-- How kept values change, and which of them are where.
use Rattle.std.specs.Prelude.{◌≡◌, ◌==◌, ℕ, Bool, false, if◌then◌else◌, Option}
use Rattle.std.specs.FinMap as map
use Rattle.cell_value.specs.declared.scalar.Scalar.{Scalar}
use Rattle.shift_core.specs.Maps.{PlaceMap}
use Rattle.dep_graph.specs.Nodes.{same_node}
use Rattle.dep_graph.specs.declared.node.Node.{Node}
use Rattle.dep_graph.specs.declared.node.Node.TheVariants.{Cell, Name, Range, Whole}
use Rattle.recalc_core.specs.Kept.{Kept}
use Rattle.recalc_core.specs.Shifted.{is_inside}

-- what is kept of each node: by one table of places within the limits of a sheet, by another of places beyond them, and by
-- a third of all other nodes
abbrev pub held : PlaceMap Scalar → Kept → Kept → Kept
held cells beyond others (Cell p) = if is_inside p then map.get cells p else beyond (Cell p)
held cells beyond others (Name scope word) = others (Name scope word)
held cells beyond others (Range b) = others (Range b)
held cells beyond others (Whole w) = others (Whole w)

-- one node has this value, or none, and all others have what they had
abbrev pub IsPut : Node → Option Scalar → Kept → Kept → Type 0
IsPut a value old new = (x : Node) → new x ≡ (if same_node a x then value else old x)

-- all nodes have what they had
abbrev pub AreSame : Kept → Kept → Type 0
AreSame old new = (x : Node) → new x ≡ old x

-- the node is a name of the scope of this number
abbrev pub is_of_scope : ℕ → Node → Bool
is_of_scope scope (Cell p) = false
is_of_scope scope (Name own word) = own == scope
is_of_scope scope (Range b) = false
is_of_scope scope (Whole w) = false
