-- What values that follow a workbook stand for. Source: this project's own.
use Rattle.std.specs.Prelude.{◌≡◌, ◌⊎◌, ◌&&◌, ◌+◌, ◌≤◌, ℕ, ℤ, Bool, true, false, List, Option, Some, None, is_some, IsTrue}
use Rattle.std.specs.List.{list_any, sum_by}
use Rattle.std.specs.Option.{is_none}
use Rattle.cell_addr.specs.Sheets.{same_name}
use Rattle.formula_tree.specs.Links.{names_in, same_link}
use Rattle.formula_tree.specs.Links.{links_in as links_in_tree}
use Rattle.formula_tree.specs.Reference.{sheet_of}
use Rattle.formula_tree.specs.Term.{Term}
use Rattle.formula_tree.specs.declared.link.Link.TheVariants as links
use Rattle.formula_tree.specs.declared.reference.Corner.{Corner}
use Rattle.book_values.specs.Names.{Names, found}
use Rattle.custom_fn.specs.declared.rule.Rule.{Rule}
use Rattle.book_values.specs.Workbook as book
use Rattle.book_values.specs.Workbook.{Workbook, home_of, tree_at}
use Rattle.dep_graph.specs.Laws.{AreLinksInside}
use Rattle.dep_graph.specs.Graph.{links_of}
use Rattle.dep_graph.specs.Needs.{Links}
use Rattle.dep_graph.specs.Nodes.{has}
use Rattle.dep_graph.specs.Walks.{IsOnce}
use Rattle.dep_graph.specs.declared.node.Node.{Node}
use Rattle.dep_graph.specs.declared.node.Node.TheVariants.{Cell, Name, Range, Whole}
use Rattle.recalc_core.specs.Kept.{Kept}
use Rattle.recalc_core.specs.Nodes.{node_at}
use Rattle.recalc_core.specs.Recalc as recalc
use Rattle.recalc_core.specs.Steps.{node_cost}
use Rattle.marked_values.specs.Marks.{FitsMarks, ReachesMark}
use Rattle.marked_values.specs.Shifts.{asks_place}
use Rattle.restored_values.specs.Suspects.{has_lost}
use Rattle.kept_values.specs.Sought.{noted_under}
use Rattle.kept_values.specs.declared.values.Values.{Values}

-- the nodes that each node is linked to
abbrev pub links_in : Values → Links
links_in v = links_of v.graph

-- the value that is kept of each node
abbrev pub kept_in : Values → Kept
kept_in v = recalc.kept_in v.recalc

-- the marks
abbrev pub marks_in : Values → List Node
marks_in v = recalc.marks_in v.recalc

-- the nodes that were marked since they were last linked
abbrev pub unlinked_in : Values → List Node
unlinked_in v = v.unlinked.keys

-- how many cells were merged for summaries
abbrev pub merged_in : Values → ℕ
merged_in v = recalc.merged_in v.recalc

-- the nodes whose formulas were found to ask where a reference is
abbrev pub asks_in : Values → Node → Bool
asks_in v a = has a v.noted.asking.keys

-- the nodes whose formulas were found to have a lost reference
abbrev pub loses_in : Values → Node → Bool
loses_in v a = has a v.noted.losing.keys

-- the nodes whose formulas were found to use this word, in some case of its letters, where it finds no name
abbrev pub seeks_in : Values → List ℕ → Node → Bool
seeks_in v word a = noted_under v.noted.seeking word a

-- a formula uses this word, in some case of its letters, and it finds no name on the sheet
abbrev pub seeks : Names → ℕ → List ℕ → Term Corner → Bool
seeks names sheet word t = list_any (λ w. same_name word w && is_none (found names w sheet)) (names_in t)

-- the formula of a place or a name does
abbrev pub seeks_at : Workbook → List ℕ → book.Node → Term Corner → Bool
seeks_at b word x t = seeks b.names (sheet_of (home_of x)) word t

-- there is one, and it passes a test
abbrev pub passes : {X : Type 0} → (X → Bool) → Option X → Bool
passes test None = false
passes test (Some x) = test x

-- tests whether a formula on a sheet is linked to a node: its tree refers to the cell, the block or the whole range, or one
-- of its words finds the name
abbrev pub is_link_of : List (List ℕ) → Names → ℕ → Term Corner → Node → Bool
is_link_of words names sheet t (Cell p) = list_any (same_link (links.Cell p)) (links_in_tree t)
is_link_of words names sheet t (Range b) = list_any (same_link (links.Area b)) (links_in_tree t)
is_link_of words names sheet t (Whole w) = list_any (same_link (links.Whole w)) (links_in_tree t)
is_link_of words names sheet t (Name scope word) = passes (book.mentions_node names sheet t) (node_at words (Name scope word))

-- tests whether the formula of a place or a name is linked to a node
abbrev pub is_link_from : Workbook → List (List ℕ) → Node → book.Node → Bool
is_link_from b words c x = passes (λ t. is_link_of words b.names (sheet_of (home_of x)) t c) (tree_at b x)

-- and the formula of a node
abbrev pub is_link_at : Workbook → List (List ℕ) → Node → Node → Bool
is_link_at b words a c = passes (is_link_from b words c) (node_at words a)

-- noted is each node that isn't among these and whose formula passes the test, and nothing but places and known names
pub record AreNoted (test : book.Node → Term Corner → Bool) (b : Workbook) (words : List (List ℕ)) (nodes : List Node) (noted : Node → Bool) : Type 0 where
  pub all : (a : Node) (x : book.Node) (t : Term Corner) → has a nodes ≡ false → node_at words a ≡ Some x → tree_at b x ≡ Some t → test x t ≡ true → noted a ≡ true
  pub known : (a : Node) → noted a ≡ true → is_some (node_at words a) ≡ true

-- they follow the workbook: each node but those that were marked since they were last linked is linked to exactly what its formula is
-- linked to, and noted to ask where a reference is where its formula does, to have lost one where its formula has, and under each word
-- of it that finds no name; what is to be linked is marked; what is marked or so noted is a place or a known name; and what is kept of
-- each place and each name that reaches no mark is its value
pub record Follows (b : Workbook) (words : List (List ℕ)) (customs : List (List ℕ × Rule)) (today : ℤ) (v : Values) : Type 0 where
  pub linked : (a c : Node) → has a (unlinked_in v) ≡ false → has c (links_in v a) ≡ is_link_at b words a c
  pub inside : AreLinksInside (links_in v)
  pub asks : AreNoted (λ x. asks_place) b words (unlinked_in v) (asks_in v)
  pub loses : AreNoted (λ x. has_lost) b words (unlinked_in v) (loses_in v)
  pub seeks : (word : List ℕ) → AreNoted (seeks_at b word) b words (unlinked_in v) (seeks_in v word)
  pub among : (a : Node) → has a (unlinked_in v) ≡ true → has a (marks_in v) ≡ true
  pub known : (a : Node) → has a (marks_in v) ≡ true → is_some (node_at words a) ≡ true
  pub fit : FitsMarks b words customs today (marks_in v) (kept_in v)

-- some of the nodes were noted, and no other one
pub record AddsNoted (nodes : List Node) (before noted : Node → Bool) : Type 0 where
  pub stay : (a : Node) → before a ≡ true → noted a ≡ true
  pub only : (a : Node) → noted a ≡ true → (before a ≡ true) ⊎ (has a nodes ≡ true)

-- some of the nodes were marked, and no other one
pub record AreMarked (nodes old new : List Node) : Type 0 where
  pub stay : (a : Node) → IsTrue (has a old) → IsTrue (has a new)
  pub only : (a : Node) → IsTrue (has a new) → IsTrue (has a old) ⊎ IsTrue (has a nodes)

-- only places and names that are marked, or whose needs lead to a marked one, were worked out, each at most once, within the
-- sum of what their formulas cost
abbrev pub TakesSteps : Workbook → List (List ℕ) → List (List ℕ × Rule) → ℤ → List Node → ℕ → ℕ → Type 0
TakesSteps b words customs today marks old new =
    (nodes : List Node) × IsOnce nodes × ((a : Node) (x : book.Node) → IsTrue (has a nodes) → node_at words a ≡ Some x → ReachesMark b words marks x)
    × (new ≤ old + sum_by (node_cost b words customs today) nodes)
