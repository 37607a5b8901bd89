-- What holds of the links of a workbook. Source: this project's own.
use Rattle.std.specs.Prelude.{◌≡◌, ◌↔◌, ◌++◌, ℕ, ℤ, true, List, Some, IsTrue}
use Rattle.cell_value.specs.declared.scalar.Scalar.{Scalar}
use Rattle.custom_fn.specs.declared.rule.Rule.{Rule}
use Rattle.formula_tree.specs.Reference.{sheet_of}
use Rattle.value_network.specs.Network.{LeadsTo, cyclic}
use Rattle.book_values.specs.Names.{found}
use Rattle.book_values.specs.Values.{network, worked_out, world_of}
use Rattle.book_values.specs.Workbook as book
use Rattle.book_values.specs.Workbook.{Workbook, home_of, tree_at}
use Rattle.dep_graph.specs.Graph.{AreLinked}
use Rattle.dep_graph.specs.Needs.{Chain, Links, OnCycle}
use Rattle.dep_graph.specs.Nodes.{has}
use Rattle.dep_graph.specs.declared.node.Node.{Node}
use Rattle.recalc_core.specs.Kept.{IsFit, Kept, stands}
use Rattle.recalc_core.specs.Links.{AreLinksFor, AreLinksOf}
use Rattle.recalc_core.specs.Nodes.{AreNumbered, node_at}

-- where links are the needs of a workbook, needs lead from one place or name to another in the graph exactly where they
-- do in the workbook
abbrev pub ChainsAreNeeds : Type 0
ChainsAreNeeds =
    (b : Workbook) (words : List (List ℕ)) (links : Links) (customs : List (List ℕ × Rule)) (today : ℤ) (a c : Node) (x y : book.Node) →
    AreLinksOf b words links → node_at words a ≡ Some x → node_at words c ≡ Some y → Chain links a c ↔ LeadsTo (network b customs today) x y

-- and a place or a name is on a cycle in the graph exactly where it shows #CYCLE! by itself
abbrev pub CyclesAgree : Type 0
CyclesAgree =
    (b : Workbook) (words : List (List ℕ)) (links : Links) (customs : List (List ℕ × Rule)) (today : ℤ) (a : Node) (x : book.Node) →
    AreLinksOf b words links → node_at words a ≡ Some x → OnCycle links a ↔ (cyclic (network b customs today) x ≡ true)

-- both workbooks have the same trees but of one node, and each word finds the same name in both
pub record DifferAt (b c : Workbook) (x : book.Node) : Type 0 where
  pub trees : (y : book.Node) → ¬ (y ≡ x) → tree_at c y ≡ tree_at b y
  pub finds : (word : List ℕ) (sheet : ℕ) → found c.names word sheet ≡ found b.names word sheet

-- links stay the needs of a workbook where one node's formula becomes another one and the node is linked anew
abbrev pub LinkingHolds : Type 0
LinkingHolds =
    (b c : Workbook) (words : List (List ℕ)) (old new : Links) (a : Node) (x : book.Node) (needs : List Node) →
    AreLinksOf b words old → DifferAt b c x → AreNumbered words c.names → node_at words a ≡ Some x →
    AreLinksFor words c.names (sheet_of (home_of x)) (tree_at c x) needs → AreLinked a needs old new → AreLinksOf c words new

-- the node stands in both workbooks or in neither, needs the same nodes, and works out the same
pub record DoesAlike (b c : Workbook) (x : book.Node) : Type 0 where
  pub stands : stands b x ≡ stands c x
  pub needs : (y : book.Node) → book.needs b x y ≡ book.needs c x y
  pub works : (customs : List (List ℕ × Rule)) (today : ℤ) (shown : book.Node → Scalar) → worked_out b (world_of b.names today shown) customs x ≡ worked_out c (world_of c.names today shown) customs x

-- each place and each known name does, but for those of the list
abbrev pub DoAlike : Workbook → Workbook → List (List ℕ) → List Node → Type 0
DoAlike b c words changed = (a : Node) (x : book.Node) → node_at words a ≡ Some x → ¬ IsTrue (has a changed) → DoesAlike b c x

-- words keep their numbers, and there may be more
abbrev pub KeepNumbers : List (List ℕ) → List (List ℕ) → Type 0
KeepNumbers words more = (a : Node) (x : book.Node) → node_at words a ≡ Some x → node_at more a ≡ Some x

-- each mark is a place or a known name
abbrev pub AreKnown : List (List ℕ) → List Node → Type 0
AreKnown words marks = (a : Node) → IsTrue (has a marks) → (x : book.Node) × (node_at words a ≡ Some x)

-- kept values fit the marks after a change of the workbook where all nodes that don't do as before are marked as well
abbrev pub ChangesKeepFit : Type 0
ChangesKeepFit =
    (b c : Workbook) (words more : List (List ℕ)) (old new : Links) (customs : List (List ℕ × Rule)) (today : ℤ) (marks changed : List Node) (kept : Kept) →
    AreLinksOf b words old → AreLinksOf c more new → KeepNumbers words more → AreKnown words marks → DoAlike b c more changed →
    IsFit b words customs today old marks kept → IsFit c more customs today new (marks ++ changed) kept
