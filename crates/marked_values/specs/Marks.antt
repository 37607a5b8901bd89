-- Kept values, links and marks that follow a workbook as it changes. Source: this project's own.
use Rattle.std.specs.Prelude.{◌≡◌, ◌⊎◌, ◌↔◌, ℕ, ℤ, pos, [], List, Some, IsTrue}
use Rattle.std.specs.FinMap as map
use Rattle.cell_addr.specs.declared.place.Place.{Place}
use Rattle.cell_addr.specs.Place.{IsInside}
use Rattle.custom_fn.specs.declared.rule.Rule.{Rule}
use Rattle.formula_tree.specs.Term.{Term}
use Rattle.formula_tree.specs.declared.reference.Corner.{Corner}
use Rattle.tree_rewrite.specs.References.{FitsSheets}
use Rattle.value_network.specs.Network.{LeadsTo}
use Rattle.book_values.specs.Book as contents
use Rattle.book_values.specs.Values.{network}
use Rattle.book_values.specs.Workbook as book
use Rattle.book_values.specs.Workbook.{Workbook, tree_at}
use Rattle.dep_graph.specs.Laws.{AreLinksInside}
use Rattle.dep_graph.specs.Needs.{Links}
use Rattle.dep_graph.specs.Nodes.{has}
use Rattle.dep_graph.specs.declared.node.Node.{Node}
use Rattle.recalc_core.specs.Kept.{IsRight, Kept}
use Rattle.recalc_core.specs.Laws.{AreKnown}
use Rattle.recalc_core.specs.Links.{IsLinkAt}
use Rattle.recalc_core.specs.Nodes.{AreNumbered, node_at}

-- needs lead from one place or name to another; they rest on neither custom functions nor the day
abbrev pub Leads : Workbook → book.Node → book.Node → Type 0
Leads b = LeadsTo (network b [] (pos 0))

-- the place or the name is marked, or its needs lead to one that is
abbrev pub ReachesMark : Workbook → List (List ℕ) → List Node → book.Node → Type 0
ReachesMark b words marks x =
    (m : Node) × (y : book.Node) × IsTrue (has m marks) × (node_at words m ≡ Some y) × ((x ≡ y) ⊎ Leads b x y)

-- what is kept of each place and each name that reaches no mark is its value, and of a node that is neither nothing is
abbrev pub FitsMarks : Workbook → List (List ℕ) → List (List ℕ × Rule) → ℤ → List Node → Kept → Type 0
FitsMarks b words customs today marks kept =
    (a : Node) → ((x : book.Node) → node_at words a ≡ Some x → ¬ ReachesMark b words marks x) → IsRight b words customs today kept a

-- each node that isn't marked is linked to exactly what its formula in the workbook is linked to
pub record AreLinksBut (b : Workbook) (words : List (List ℕ)) (marks : List Node) (links : Links) : Type 0 where
  pub numbered : AreNumbered words b.names
  pub exact : (a c : Node) → ¬ IsTrue (has a marks) → IsTrue (has c (links a)) ↔ IsLinkAt b words a c

-- links, marks and kept values follow a workbook: only of marked nodes the links may be others, and only of what reaches a
-- mark the values
pub record Follow (b : Workbook) (words : List (List ℕ)) (customs : List (List ℕ × Rule)) (today : ℤ) (links : Links) (marks : List Node) (kept : Kept) : Type 0 where
  pub linked : AreLinksBut b words marks links
  pub inside : AreLinksInside links
  pub known : AreKnown words marks
  pub fit : FitsMarks b words customs today marks kept

-- each filled cell of the workbook, and each reference of its formulas, is within the limits of a sheet
pub record IsBookInside (b : Workbook) : Type 0 where
  pub cells : (p : Place) (c : contents.Content) → map.get b.cells p ≡ Some c → IsInside p
  pub trees : (x : book.Node) (t : Term Corner) → tree_at b x ≡ Some t → FitsSheets t
