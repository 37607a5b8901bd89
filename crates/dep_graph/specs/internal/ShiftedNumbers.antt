-- What an operation makes of nodes under numbers: where each goes, and how ranges are filed then.
use Rattle.std.specs.BTreeMap as tree
use Rattle.std.specs.Prelude.{◌≡◌, ◌<◌, ◌==◌, ◌||◌, ◌⊎◌, ℕ, Bool, true, List, Option, Some, None, IsSome, length, nat_lt, slice_get, if◌then◌else◌}
use Rattle.std.specs.Option.{option_and_then, option_map}
use Rattle.std.specs.Ordering.{nat_cmp}
use Rattle.needs_order.specs.Needs.{has}
use Rattle.node_links.specs.Nodes.{needs_of}
use Rattle.node_links.specs.Redirect.{few_target, is_among}
use Rattle.place_lines.specs.declared.lines.PlaceLines.{PlaceLines}
use Rattle.shift_core.specs.declared.shift.Shift.{Shift}
use Rattle.dep_graph.specs.Shifted.{node_after}
use Rattle.dep_graph.specs.declared.net.Net.{Net}
use Rattle.dep_graph.specs.declared.node.Node.{Node}
use Rattle.dep_graph.specs.declared.node.Node.TheVariants.{Cell, Name, Range, Whole}
use Rattle.dep_graph.specs.declared.serving.Serving.{Serving}
use Rattle.dep_graph.specs.internal.Arrows.{is_used}
use Rattle.dep_graph.specs.internal.Files.{AreServing, FindsBy, HoldsNode}
use Rattle.dep_graph.specs.internal.Keys.{key_of}
use Rattle.dep_graph.specs.internal.Numbers.{count_of, found_at, is_range, key_place}

-- the node of the number is linked to some, or some to it
abbrev pub is_linked : Net → ℕ → Bool
is_linked net n = nat_lt 0 (length (needs_of net.links n)) || is_used net n

-- where the operation moves the node of a number
abbrev pub after_at : Shift → Net → ℕ → Option Node
after_at s net n = option_and_then (node_after s) (found_at net.nodes n)

-- the node, where it is a range, whole or not
abbrev pub range_in : Option Node → Option Node
range_in (Some (Range b)) = Some (Range b)
range_in (Some (Whole w)) = Some (Whole w)
range_in (Some (Cell p)) = None
range_in (Some (Name scope word)) = None
range_in None = None

-- the number of what the node of a number becomes, by the lines after the operation
abbrev pub aim_of : Shift → PlaceLines → Net → ℕ → Option ℕ
aim_of s lines net n = option_map (λ a. key_place net.nodes (key_of lines a)) (after_at s net n)

-- each linked node has its aim as its target, and all targets are numbers of keys
pub record AreTargets (s : Shift) (lines : PlaceLines) (net : Net) (target : ℕ → Option ℕ) : Type 0 where
  pub aims : (n : ℕ) → is_linked net n ≡ true → target n ≡ aim_of s lines net n
  pub inside : (n t : ℕ) → n < count_of net.nodes → target n ≡ Some t → t < count_of net.nodes

-- the filings are those of ranges by the lines after the operation
abbrev pub AreFilingsUnder : PlaceLines → Net → (ℕ → Option Serving) → Type 0
AreFilingsUnder lines net filing =
    (n : ℕ) (all : Serving) → filing n ≡ Some all → AreServing net.files n all
    × ((a : Node) × (slice_get net.nodes.keys.keys n ≡ Some (key_of lines a)) × HoldsNode lines (FindsBy net.files n all) a)

-- the node of the number is used, and becomes this range under this number
abbrev pub BecomesRange : Shift → Net → (ℕ → Option ℕ) → ℕ → ℕ → Node → Type 0
BecomesRange s net target n t after =
    (is_used net n ≡ true) × (target n ≡ Some t) × (after_at s net n ≡ Some after) × (is_range (Some after) ≡ true)

-- where it is, it is filed where it goes
abbrev pub IsRefiled : Shift → Net → (ℕ → Option ℕ) → ℕ → (ℕ → Option Serving) → Type 0
IsRefiled s net target n filing = (t : ℕ) (after : Node) → BecomesRange s net target n t after → IsSome (filing t)

-- so are all
abbrev pub AreAllRefiled : Shift → Net → (ℕ → Option ℕ) → (ℕ → Option Serving) → Type 0
AreAllRefiled s net target filing = (n : ℕ) → IsRefiled s net target n filing

-- what was filed is so still
abbrev pub StillFiled : (ℕ → Option Serving) → (ℕ → Option Serving) → Type 0
StillFiled old new = (n : ℕ) → IsSome (old n) → IsSome (new n)

-- just these numbers are there, without filings
abbrev pub AreUnfiled : List ℕ → tree.BTreeMap ℕ (Option Serving) → Type 0
AreUnfiled numbers filings = (n : ℕ) → tree.get nat_cmp filings n ≡ (if has n numbers then Some None else None)

-- a target was set for a number that had none of its own
pub record SetsTarget (number : ℕ) (target : Option ℕ) (old new : tree.BTreeMap ℕ (Option ℕ)) : Type 0 where
  pub here : (n : ℕ) → few_target new n ≡ (if n == number then target else few_target old n)
  pub among : (n : ℕ) → is_among new n ≡ true → (is_among old n ≡ true) ⊎ (n ≡ number)
