-- The links of the graph of needs that are the needs of a workbook. Source: this project's own.
use Rattle.std.specs.Prelude.{◌≡◌, ◌↔◌, ℕ, true, List, Option, Some, None, IsTrue}
use Rattle.std.specs.List.{list_any}
use Rattle.formula_tree.specs.Links.{links_in, same_link}
use Rattle.formula_tree.specs.Reference.{sheet_of}
use Rattle.formula_tree.specs.Term.{Term}
use Rattle.formula_tree.specs.declared.link.Link.TheVariants as links
use Rattle.formula_tree.specs.declared.reference.Corner.{Corner}
use Rattle.book_values.specs.Names.{Key, Names}
use Rattle.book_values.specs.Workbook as book
use Rattle.book_values.specs.Workbook.{Workbook, home_of, tree_at}
use Rattle.dep_graph.specs.Needs.{Links}
use Rattle.dep_graph.specs.Nodes.{has}
use Rattle.dep_graph.specs.declared.node.Node.{Node}
use Rattle.dep_graph.specs.declared.node.Node.TheVariants.{Cell, Name, Range, Whole}
use Rattle.recalc_core.specs.Nodes.{AreNumbered, node_at}

-- a formula on a sheet is linked to a node: its tree refers to the cell, the block or the whole range, or one of its words finds the name
abbrev pub IsLinkOf : List (List ℕ) → Names → ℕ → Term Corner → Node → Type 0
IsLinkOf words names sheet t (Cell p) = IsTrue (list_any (same_link (links.Cell p)) (links_in t))
IsLinkOf words names sheet t (Range b) = IsTrue (list_any (same_link (links.Area b)) (links_in t))
IsLinkOf words names sheet t (Whole w) = IsTrue (list_any (same_link (links.Whole w)) (links_in t))
IsLinkOf words names sheet t (Name scope word) =
    (key : Key) × (node_at words (Name scope word) ≡ Some (book.name key)) × (book.mentions_node names sheet t (book.name key) ≡ true)

-- the node is linked to another, by its formula
abbrev pub IsLinkAt : Workbook → List (List ℕ) → Node → Node → Type 0
IsLinkAt b words a c =
    (x : book.Node) × (t : Term Corner) × (node_at words a ≡ Some x) × (tree_at b x ≡ Some t) × IsLinkOf words b.names (sheet_of (home_of x)) t c

-- each node is linked to exactly what its formula in the workbook is linked to
pub record AreLinksOf (b : Workbook) (words : List (List ℕ)) (links : Links) : Type 0 where
  pub numbered : AreNumbered words b.names
  pub exact : (a c : Node) → IsTrue (has c (links a)) ↔ IsLinkAt b words a c

-- exactly the nodes that a formula on a sheet is linked to; none where there is no formula
abbrev pub AreLinksFor : List (List ℕ) → Names → ℕ → Option (Term Corner) → List Node → Type 0
AreLinksFor words names sheet (Some t) needs = (c : Node) → IsTrue (has c needs) ↔ IsLinkOf words names sheet t c
AreLinksFor words names sheet None needs = (c : Node) → ¬ IsTrue (has c needs)
