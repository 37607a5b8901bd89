-- What nodes become over a structural operation.
use Rattle.std.specs.Prelude.{◌≡◌, ◌↔◌, if◌then◌else◌, List, Option, Some, None, IsTrue, option_map}
use Rattle.shift_core.specs.Form.{form_of}
use Rattle.shift_core.specs.Tables.{place_after}
use Rattle.shift_core.specs.declared.shift.Shift.{Shift}
use Rattle.dep_graph.specs.Nodes.{has}
use Rattle.dep_graph.specs.declared.node.Node.{Node}
use Rattle.dep_graph.specs.declared.node.Node.TheVariants.{Cell, Name, Range, Whole}
use Rattle.recalc_core.specs.Recalc.{with_mark}
use Rattle.recalc_core.specs.Shifted.{drops_scope, from_over, is_inside}

-- the node that comes from this one, if there is one
abbrev pub gone_over : Shift → Node → Option Node
gone_over s (Cell p) = if is_inside p then option_map Cell (place_after s p) else None
gone_over s (Name scope word) = if drops_scope (form_of s) scope then None else Some (Name scope word)
gone_over s (Range b) = None
gone_over s (Whole w) = None

-- the marks with one more, if there is one
abbrev pub with_gone : Option Node → List Node → List Node
with_gone (Some a) marks = with_mark a marks
with_gone None marks = marks

-- exactly the nodes are marked that come from marked ones
abbrev pub AreGone : Shift → List Node → List Node → Type 0
AreGone s old new = (a : Node) → IsTrue (has a new) ↔ ((b : Node) × IsTrue (has b old) × (from_over s a ≡ Some b))
