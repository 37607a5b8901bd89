-- Which nodes to mark where one name is added, changed or removed, by a graph of links. Source: this project's own.
use Rattle.std.specs.Prelude.{◌≡◌, ◌⊎◌, ◌==◌, ℕ, ℤ, Bool, true, false, List, Option, Some, None, is_some, IsTrue}
use Rattle.custom_fn.specs.declared.rule.Rule.{Rule}
use Rattle.formula_tree.specs.Reference.{sheet_of}
use Rattle.formula_tree.specs.Term.{Term}
use Rattle.formula_tree.specs.declared.reference.Corner.{Corner}
use Rattle.book_values.specs.Names.{Key, found, key_of, tree_in}
use Rattle.book_values.specs.Workbook as book
use Rattle.book_values.specs.Workbook.{Workbook, home_of, tree_at}
use Rattle.dep_graph.specs.Needs.{Links}
use Rattle.dep_graph.specs.Nodes.{has}
use Rattle.dep_graph.specs.declared.node.Node.{Node}
use Rattle.recalc_core.specs.Edits.{DifferInName, UsesWord}
use Rattle.recalc_core.specs.Kept.{Kept}
use Rattle.recalc_core.specs.Laws.{AreKnown, KeepNumbers}
use Rattle.recalc_core.specs.Links.{IsLinkAt}
use Rattle.recalc_core.specs.Nodes.{AreNumbered, node_at}
use Rattle.marked_values.specs.Changes.{LeavesAlone}
use Rattle.marked_values.specs.Marks.{AreLinksBut, Follow}
use Rattle.marked_values.specs.Rebound.{LeavesToNeeds}

-- ---- by what formulas are linked to

-- the list has the node, and each node that is linked to it
pub record HaveLinked (b : Workbook) (words : List (List ℕ)) (n : Node) (changed : List Node) : Type 0 where
  pub itself : IsTrue (has n changed)
  pub linked : (a : Node) → IsLinkAt b words a n → IsTrue (has a changed)

-- the scope is the sheet, or the whole workbook
abbrev pub is_scope_for : Option ℕ → ℕ → Bool
is_scope_for (Some own) sheet = own == sheet
is_scope_for None sheet = true

-- the list has the node of a name that isn't there yet; each node within the name's scope whose formula uses its word where that finds
-- no name; and where the name is a sheet's, each node of the sheet that is linked to the whole workbook's name of that word
pub record HaveFinders (b : Workbook) (words : List (List ℕ)) (n : Node) (key : Key) (changed : List Node) : Type 0 where
  pub itself : IsTrue (has n changed)
  pub finding : (a : Node) (x : book.Node) (t : Term Corner) → node_at words a ≡ Some x → tree_at b x ≡ Some t → UsesWord t key.word →
      found b.names key.word (sheet_of (home_of x)) ≡ None → is_scope_for key.scope (sheet_of (home_of x)) ≡ true → IsTrue (has a changed)
  pub hidden : (a m : Node) (x : book.Node) → node_at words a ≡ Some x → key.scope ≡ Some (sheet_of (home_of x)) → node_at words m ≡ Some (book.name (key_of None key.word)) →
      IsLinkAt b words a m → IsTrue (has a changed)

-- where a name was removed, all nodes are left alone but the name's and those that were linked to it
abbrev pub RemovedLeavesAlone : Type 0
RemovedLeavesAlone =
    (b c : Workbook) (words : List (List ℕ)) (n : Node) (key : Key) (changed : List Node) → DifferInName b c key → is_some (tree_in c.names key) ≡ false →
    AreNumbered words b.names → node_at words n ≡ Some (book.name key) → HaveLinked b words n changed → LeavesAlone b c words changed

-- where one was added, all but the name's and those for whose formulas its word finds it now
abbrev pub AddedLeavesAlone : Type 0
AddedLeavesAlone =
    (b c : Workbook) (words : List (List ℕ)) (n : Node) (key : Key) (changed : List Node) → DifferInName b c key → is_some (tree_in b.names key) ≡ false →
    AreNumbered words b.names → node_at words n ≡ Some (book.name key) → HaveFinders b words n key changed → LeavesAlone b c words changed

-- where one got another formula, the change comes to all but the name's by needs alone
abbrev pub ChangedLeavesToNeeds : Type 0
ChangedLeavesToNeeds =
    (b c : Workbook) (words : List (List ℕ)) (n : Node) (key : Key) (changed : List Node) → DifferInName b c key → is_some (tree_in b.names key) ≡ true →
    is_some (tree_in c.names key) ≡ true → AreNumbered words b.names → node_at words n ≡ Some (book.name key) → IsTrue (has n changed) → LeavesToNeeds b c words changed

-- ---- by the links of the graph

-- a formula that is linked to a node is so in the graph, or is marked, also where more words have got their numbers
abbrev pub LinkedOrMarked : Type 0
LinkedOrMarked =
    (b : Workbook) (words more : List (List ℕ)) (links : Links) (marks : List Node) (a n : Node) →
    AreLinksBut b words marks links → KeepNumbers words more → AreNumbered more b.names → IsLinkAt b more a n → IsTrue (has a marks) ⊎ IsTrue (has n (links a))

-- the marks after a name was removed: those from before, the name's node, and each node that the graph links to it
pub record AreMarksRemoved (links : Links) (n : Node) (marks after : List Node) : Type 0 where
  pub stay : (a : Node) → IsTrue (has a marks) → IsTrue (has a after)
  pub itself : IsTrue (has n after)
  pub users : (a : Node) → IsTrue (has n (links a)) → IsTrue (has a after)

-- the marks after a name was added: those from before, the name's node, each node within the name's scope whose formula uses its word
-- where that found no name, and where the name is a sheet's, each node of the sheet that the graph links to the whole workbook's name of
-- that word
pub record AreMarksAdded (b : Workbook) (words : List (List ℕ)) (links : Links) (n : Node) (key : Key) (marks after : List Node) : Type 0 where
  pub stay : (a : Node) → IsTrue (has a marks) → IsTrue (has a after)
  pub itself : IsTrue (has n after)
  pub finding : (a : Node) (x : book.Node) (t : Term Corner) → node_at words a ≡ Some x → tree_at b x ≡ Some t → UsesWord t key.word →
      found b.names key.word (sheet_of (home_of x)) ≡ None → is_scope_for key.scope (sheet_of (home_of x)) ≡ true → IsTrue (has a after)
  pub hidden : (a m : Node) (x : book.Node) → node_at words a ≡ Some x → key.scope ≡ Some (sheet_of (home_of x)) → node_at words m ≡ Some (book.name (key_of None key.word)) →
      IsTrue (has m (links a)) → IsTrue (has a after)

-- after a name was removed, links and kept values follow with these marks
abbrev pub RemovedFollow : Type 0
RemovedFollow =
    (b c : Workbook) (words more : List (List ℕ)) (customs : List (List ℕ × Rule)) (today : ℤ) (links : Links) (marks after : List Node) (kept : Kept) (n : Node) (key : Key) →
    Follow b words customs today links marks kept → KeepNumbers words more → AreNumbered more c.names → DifferInName b c key → is_some (tree_in c.names key) ≡ false →
    node_at more n ≡ Some (book.name key) → AreMarksRemoved links n marks after → AreKnown more after → Follow c more customs today links after kept

-- so they do after one was added
abbrev pub AddedFollow : Type 0
AddedFollow =
    (b c : Workbook) (words more : List (List ℕ)) (customs : List (List ℕ × Rule)) (today : ℤ) (links : Links) (marks after : List Node) (kept : Kept) (n : Node) (key : Key) →
    Follow b words customs today links marks kept → KeepNumbers words more → AreNumbered more c.names → DifferInName b c key → is_some (tree_in b.names key) ≡ false →
    node_at more n ≡ Some (book.name key) → AreMarksAdded b more links n key marks after → AreKnown more after → Follow c more customs today links after kept

-- and where one got another formula, with its node as a further mark
abbrev pub ChangedFollow : Type 0
ChangedFollow =
    (b c : Workbook) (words more : List (List ℕ)) (customs : List (List ℕ × Rule)) (today : ℤ) (links : Links) (marks after : List Node) (kept : Kept) (n : Node) (key : Key) →
    Follow b words customs today links marks kept → KeepNumbers words more → AreNumbered more c.names → DifferInName b c key → is_some (tree_in b.names key) ≡ true →
    is_some (tree_in c.names key) ≡ true → node_at more n ≡ Some (book.name key) → ((a : Node) → IsTrue (has a marks) → IsTrue (has a after)) → IsTrue (has n after) →
    AreKnown more after → Follow c more customs today links after kept
