-- What changes of a workbook leave of links and kept values that follow it. Source: this project's own.
use Rattle.std.specs.Prelude.{◌≡◌, ◌++◌, ◌∷◌, [], ℕ, ℤ, true, List, Some, None, IsTrue}
use Rattle.std.specs.FinMap as map
use Rattle.cell_addr.specs.declared.place.Place.{Place}
use Rattle.custom_fn.specs.declared.rule.Rule.{Rule}
use Rattle.formula_tree.specs.Reference.{sheet_of}
use Rattle.book_values.specs.Names.{Key}
use Rattle.book_values.specs.Workbook as book
use Rattle.book_values.specs.Workbook.{Workbook, home_of, tree_at}
use Rattle.dep_graph.specs.Graph.{AreLinked}
use Rattle.dep_graph.specs.Laws.{AreLinksInside}
use Rattle.dep_graph.specs.Needs.{Links}
use Rattle.dep_graph.specs.Nodes.{has}
use Rattle.dep_graph.specs.declared.node.Node.{Node}
use Rattle.dep_graph.specs.declared.node.Node.TheVariants.{Cell}
use Rattle.recalc_core.specs.Edits.{DifferInName, HaveUsers}
use Rattle.recalc_core.specs.Kept.{AreRight, IsFit, Kept, stands}
use Rattle.recalc_core.specs.Laws.{AreKnown, DoesAlike, KeepNumbers}
use Rattle.recalc_core.specs.Links.{AreLinksFor, AreLinksOf}
use Rattle.recalc_core.specs.Nodes.{AreNumbered, node_at}
use Rattle.marked_values.specs.Marks.{AreLinksBut, Follow, IsBookInside}

-- a change of the workbook leaves the place or the name alone: it does as before, by the same tree
pub record IsLeftAlone (b c : Workbook) (x : book.Node) : Type 0 where
  pub alike : DoesAlike b c x
  pub tree : tree_at c x ≡ tree_at b x

-- so it does each but those of the list
abbrev pub LeavesAlone : Workbook → Workbook → List (List ℕ) → List Node → Type 0
LeavesAlone b c words changed = (a : Node) (x : book.Node) → node_at words a ≡ Some x → ¬ IsTrue (has a changed) → IsLeftAlone b c x

-- after a change, links and kept values follow where what it didn't leave alone is marked as well
abbrev pub ChangesFollow : Type 0
ChangesFollow =
    (b c : Workbook) (words more : List (List ℕ)) (customs : List (List ℕ × Rule)) (today : ℤ) (links : Links) (marks changed : List Node) (kept : Kept) →
    Follow b words customs today links marks kept → KeepNumbers words more → AreNumbered more c.names → LeavesAlone b c more changed → AreKnown more changed →
    Follow c more customs today links (marks ++ changed) kept

-- more marks do no harm
abbrev pub MoreMarksFollow : Type 0
MoreMarksFollow =
    (b : Workbook) (words : List (List ℕ)) (customs : List (List ℕ × Rule)) (today : ℤ) (links : Links) (marks more : List Node) (kept : Kept) →
    Follow b words customs today links marks kept → ((a : Node) → IsTrue (has a marks) → IsTrue (has a more)) → AreKnown words more →
    Follow b words customs today links more kept

-- a change of cells leaves all nodes alone but these cells
abbrev pub CellsAlone : Type 0
CellsAlone =
    (b c : Workbook) (words : List (List ℕ)) (changed : List Node) → b.names ≡ c.names →
    ((q : Place) → ¬ IsTrue (has (Cell q) changed) → map.get b.cells q ≡ map.get c.cells q) → LeavesAlone b c words changed

-- a change of one name leaves all nodes alone but the name and those whose formulas use its word
abbrev pub NameAlone : Type 0
NameAlone = (b c : Workbook) (words : List (List ℕ)) (key : Key) (changed : List Node) → DifferInName b c key → HaveUsers b words key changed → LeavesAlone b c words changed

-- of the workbook that isn't linked and of which nothing is kept, all that stands is marked
abbrev pub AllMarkedFollow : Type 0
AllMarkedFollow =
    (b : Workbook) (words : List (List ℕ)) (customs : List (List ℕ × Rule)) (today : ℤ) (links : Links) (marks : List Node) (kept : Kept) →
    AreNumbered words b.names → ((a : Node) → links a ≡ []) → ((a : Node) → kept a ≡ None) →
    ((a : Node) (x : book.Node) → node_at words a ≡ Some x → stands b x ≡ true → IsTrue (has a marks)) → AreKnown words marks →
    Follow b words customs today links marks kept

-- a node that is linked anew needn't be marked for its links
abbrev pub NodesLinkAnew : Type 0
NodesLinkAnew =
    (b : Workbook) (words : List (List ℕ)) (a : Node) (x : book.Node) (needs rest : List Node) (old new : Links) →
    AreLinksBut b words (a ∷ rest) old → node_at words a ≡ Some x → AreLinksFor words b.names (sheet_of (home_of x)) (tree_at b x) needs → AreLinked a needs old new →
    AreLinksBut b words rest new

-- the links of a workbook that lies within the limits lie there too
abbrev pub LinksAreInside : Type 0
LinksAreInside =
    (b : Workbook) (words : List (List ℕ)) (a : Node) (x : book.Node) (needs : List Node) (old new : Links) →
    IsBookInside b → AreLinksInside old → node_at words a ≡ Some x → AreLinksFor words b.names (sheet_of (home_of x)) (tree_at b x) needs → AreLinked a needs old new →
    AreLinksInside new

-- once all links are those of the workbook, what is kept fits the marks by the graph as well
abbrev pub FollowFits : Type 0
FollowFits =
    (b : Workbook) (words : List (List ℕ)) (customs : List (List ℕ × Rule)) (today : ℤ) (links : Links) (marks : List Node) (kept : Kept) →
    Follow b words customs today links marks kept → AreLinksOf b words links → IsFit b words customs today links marks kept

-- and what fits the marks by the graph follows
abbrev pub FitsFollow : Type 0
FitsFollow =
    (b : Workbook) (words : List (List ℕ)) (customs : List (List ℕ × Rule)) (today : ℤ) (links : Links) (marks : List Node) (kept : Kept) →
    AreLinksOf b words links → AreLinksInside links → AreKnown words marks → IsFit b words customs today links marks kept →
    Follow b words customs today links marks kept

-- values that are all right follow without marks
abbrev pub RightFollow : Type 0
RightFollow =
    (b : Workbook) (words : List (List ℕ)) (customs : List (List ℕ × Rule)) (today : ℤ) (links : Links) (kept : Kept) →
    AreLinksOf b words links → AreLinksInside links → AreRight b words customs today kept → Follow b words customs today links [] kept

-- once each marked node was linked anew, the links are those of the workbook, and what is kept fits the marks by the graph
abbrev pub LinkedAnewFits : Type 0
LinkedAnewFits =
    (b : Workbook) (words : List (List ℕ)) (customs : List (List ℕ × Rule)) (today : ℤ) (old new : Links) (marks : List Node) (kept : Kept) →
    Follow b words customs today old marks kept → AreLinksBut b words [] new → AreLinksOf b words new × IsFit b words customs today new marks kept
