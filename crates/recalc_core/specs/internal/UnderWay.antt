-- How kept values become right, one node after another.
use Rattle.std.specs.Prelude.{◌≡◌, ◌⊎◌, ◌+◌, ◌<◌, ◌≤◌, ℕ, ℤ, true, false, List, length, take, slice_index_or, Some}
use Rattle.cell_value.specs.declared.fault.FaultKind.TheVariants as fault
use Rattle.cell_value.specs.declared.scalar.Scalar.{Scalar}
use Rattle.cell_value.specs.declared.scalar.Scalar.TheVariants as scalar
use Rattle.custom_fn.specs.declared.rule.Rule.{Rule}
use Rattle.formula_tree.specs.Links.{names_in}
use Rattle.formula_tree.specs.Reference.{sheet_of}
use Rattle.formula_tree.specs.Term.{Term}
use Rattle.formula_tree.specs.declared.reference.Corner.{Corner}
use Rattle.formula_tree.specs.declared.reference.Home.{Home}
use Rattle.value_network.specs.Network.{LeadsTo, cyclic}
use Rattle.calc_terms.specs.Cost.{cost}
use Rattle.calc_terms.specs.Meaning.{meaning}
use Rattle.book_values.specs.Values.{network}
use Rattle.book_values.specs.Workbook as book
use Rattle.book_values.specs.Workbook.{Workbook}
use Rattle.dep_graph.specs.Laws.{IsNoRange}
use Rattle.dep_graph.specs.Nodes.{has, same_node}
use Rattle.dep_graph.specs.declared.node.Node.{Node}
use Rattle.recalc_core.specs.Kept.{IsRight, Kept}
use Rattle.recalc_core.specs.Nodes.{node_at}
use Rattle.recalc_core.specs.declared.names.ReadName.{ReadName}
use Rattle.recalc_core.specs.internal.Seen.{AreRead, world_in}

-- what is kept of all nodes but one is as it was
abbrev pub DiffersAt : Node → Kept → Kept → Type 0
DiffersAt a old new = (x : Node) → same_node a x ≡ false → new x ≡ old x

-- what is kept of all nodes but those of a list is
abbrev pub DifferWithin : List Node → Kept → Kept → Type 0
DifferWithin nodes old new = (x : Node) → has x nodes ≡ false → new x ≡ old x

-- the cycle's value is kept of the node, unless that is a range
abbrev pub ShowsCycle : Kept → Node → Type 0
ShowsCycle kept a = IsNoRange a → kept a ≡ Some (scalar.Fault fault.Cycle)

-- and of each node of the list that isn't in the order
abbrev pub AreCycles : List Node → List Node → Kept → Type 0
AreCycles nodes order kept = (a : Node) → has a nodes ≡ true → has a order ≡ false → ShowsCycle kept a

-- the value is what the tree means over the kept values and the names that it reads
abbrev pub IsMeaning : Workbook → List (List ℕ) → List (List ℕ × Rule) → ℤ → Kept → Home → Term Corner → Scalar → Type 0
IsMeaning b words customs today kept home t value =
    (names : List ReadName) × AreRead b words (sheet_of home) (names_in t) names × (value ≡ meaning (world_in kept names today) customs home t)

-- the steps are at most what the tree costs over the kept values and the names that it reads; there are none where these
-- names weren't read
abbrev pub IsWithinCost : Workbook → List (List ℕ) → ℤ → Kept → Home → Term Corner → ℕ → ℕ → Type 0
IsWithinCost b words today kept home t old new =
    (new ≤ old) ⊎ ((names : List ReadName) × AreRead b words (sheet_of home) (names_in t) names × (new ≤ old + cost (world_in kept names today) (sheet_of home) t))

-- a node can be worked out: it is on no cycle, and what is kept of all that its needs lead to is right
abbrev pub IsReady : Workbook → List (List ℕ) → List (List ℕ × Rule) → ℤ → Kept → Node → Type 0
IsReady b words customs today kept a =
    (x : book.Node) → node_at words a ≡ Some x →
    (cyclic (network b customs today) x ≡ false)
    × ((z : book.Node) (c : Node) → LeadsTo (network b customs today) x z → node_at words c ≡ Some z → IsRight b words customs today kept c)

-- each node of the order is on no cycle, and all that its needs lead to stands before it or isn't in the order
abbrev pub IsPlan : Workbook → List (List ℕ) → List (List ℕ × Rule) → ℤ → List Node → Type 0
IsPlan b words customs today order =
    (i : ℕ) (a : Node) (x : book.Node) → i < length order → a ≡ slice_index_or order i a → node_at words a ≡ Some x →
    (cyclic (network b customs today) x ≡ false)
    × ((z : book.Node) (c : Node) → LeadsTo (network b customs today) x z → node_at words c ≡ Some z → (has c order ≡ false) ⊎ (has c (take i order) ≡ true))

-- what is kept of the first nodes of the order is right, and of those that aren't in it
pub record IsUnderWay (b : Workbook) (words : List (List ℕ)) (customs : List (List ℕ × Rule)) (today : ℤ) (order : List Node) (i : ℕ) (kept : Kept) : Type 0 where
  pub done : (a : Node) → has a (take i order) ≡ true → IsRight b words customs today kept a
  pub others : (a : Node) → has a order ≡ false → IsRight b words customs today kept a
