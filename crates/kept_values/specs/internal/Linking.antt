-- The nodes that a formula is linked to, one after another.
use Rattle.std.specs.Prelude.{◌≡◌, ◌⊎◌, ◌↔◌, ℕ, true, List, Option, Some, None, IsTrue}
use Rattle.std.specs.List.{list_any}
use Rattle.formula_tree.specs.Reference.{sheet_of}
use Rattle.formula_tree.specs.declared.link.Link.{Link}
use Rattle.formula_tree.specs.declared.link.Link.TheVariants as links
use Rattle.book_values.specs.Names.{Key, Names, found, is_found}
use Rattle.book_values.specs.Workbook as book
use Rattle.book_values.specs.Workbook.{Workbook, home_of, tree_at}
use Rattle.dep_graph.specs.Graph.{AreLinked}
use Rattle.dep_graph.specs.Needs.{Links}
use Rattle.dep_graph.specs.Nodes.{has}
use Rattle.dep_graph.specs.declared.node.Node.{Node}
use Rattle.dep_graph.specs.declared.node.Node.TheVariants.{Cell, Range, Whole}
use Rattle.recalc_core.specs.Links.{AreLinksFor}
use Rattle.recalc_core.specs.Nodes.{node_at}

-- the node of a cell, a block or a whole range; a name is none by itself
abbrev pub node_of : Link → Option Node
node_of (links.Cell p) = Some (Cell p)
node_of (links.Area b) = Some (Range b)
node_of (links.Whole w) = Some (Whole w)
node_of (links.Name scope word) = None

-- the node is a name that one of the words finds on the sheet
abbrev pub IsFoundBy : List (List ℕ) → Names → ℕ → List (List ℕ) → Node → Type 0
IsFoundBy words names sheet asked c =
    (key : Key) × (node_at words c ≡ Some (book.name key)) × (list_any (λ word. is_found (found names word sheet) key) asked ≡ true)

-- the names that the words find were added, and no other node
abbrev pub AddsFound : List (List ℕ) → Names → ℕ → List (List ℕ) → List Node → List Node → Type 0
AddsFound words names sheet asked old new = (c : Node) → IsTrue (has c new) ↔ (IsTrue (has c old) ⊎ IsFoundBy words names sheet asked c)

-- the node was linked anew, to what its formula in the workbook is linked to; a node that is neither a place nor a name may be linked
-- to anything
abbrev pub IsLinkedAnew : Workbook → List (List ℕ) → Node → Links → Links → Type 0
IsLinkedAnew b words a old new =
    (x : book.Node) → node_at words a ≡ Some x → (needs : List Node) × AreLinksFor words b.names (sheet_of (home_of x)) (tree_at b x) needs × AreLinked a needs old new
