-- What a change of one name leaves alone, by what the name's word finds before and after it. Source: this project's own.
use Rattle.std.specs.Prelude.{◌≡◌, ◌⊎◌, ◌++◌, ◌&&◌, ℕ, ℤ, Bool, true, false, List, Option, Some, None, is_some, IsTrue}
use Rattle.cell_value.specs.declared.scalar.Scalar.{Scalar}
use Rattle.custom_fn.specs.declared.rule.Rule.{Rule}
use Rattle.formula_tree.specs.Reference.{sheet_of}
use Rattle.formula_tree.specs.Term.{Term}
use Rattle.formula_tree.specs.declared.reference.Corner.{Corner}
use Rattle.book_values.specs.Names.{Key, found, key_of, same_key, tree_in}
use Rattle.book_values.specs.Values.{worked_out, world_of}
use Rattle.book_values.specs.Workbook as book
use Rattle.book_values.specs.Workbook.{Workbook, home_of, tree_at}
use Rattle.dep_graph.specs.Needs.{Links}
use Rattle.dep_graph.specs.Nodes.{has}
use Rattle.dep_graph.specs.declared.node.Node.{Node}
use Rattle.recalc_core.specs.Edits.{DifferInName, UsesWord}
use Rattle.recalc_core.specs.Kept.{Kept, stands}
use Rattle.recalc_core.specs.Laws.{AreKnown, KeepNumbers}
use Rattle.recalc_core.specs.Nodes.{AreNumbered, node_at}
use Rattle.marked_values.specs.Changes.{LeavesAlone}
use Rattle.marked_values.specs.Marks.{Follow}

-- ---- changes that come to a node by its needs

-- all that the place or the name needs are known nodes outside of the list
abbrev pub NeedsOthers : Workbook → List (List ℕ) → List Node → book.Node → Type 0
NeedsOthers b words changed x = (y : book.Node) → book.needs b x y ≡ true → (m : Node) × (node_at words m ≡ Some y) × (¬ IsTrue (has m changed))

-- a change of the workbook comes to the place or the name by its needs alone: it has the same tree and needs the same nodes, and works
-- out the same where none of these is of the list. A name that becomes another block comes so to a sum of the name, which reads other
-- cells then
pub record IsLeftToNeeds (b c : Workbook) (words : List (List ℕ)) (changed : List Node) (x : book.Node) : Type 0 where
  pub stands : stands b x ≡ stands c x
  pub tree : tree_at c x ≡ tree_at b x
  pub needs : (y : book.Node) → book.needs b x y ≡ book.needs c x y
  pub works : NeedsOthers b words changed x → (customs : List (List ℕ × Rule)) (today : ℤ) (shown : book.Node → Scalar) → worked_out b (world_of b.names today shown) customs x ≡ worked_out c (world_of c.names today shown) customs x

-- so it comes to each node but those of the list
abbrev pub LeavesToNeeds : Workbook → Workbook → List (List ℕ) → List Node → Type 0
LeavesToNeeds b c words changed = (a : Node) (x : book.Node) → node_at words a ≡ Some x → ¬ IsTrue (has a changed) → IsLeftToNeeds b c words changed x

-- so it is with what a change leaves alone
abbrev pub AloneLeavesToNeeds : Type 0
AloneLeavesToNeeds = (b c : Workbook) (words : List (List ℕ)) (changed : List Node) → LeavesAlone b c words changed → LeavesToNeeds b c words changed

-- after a change, links and kept values follow where all to which it didn't come by needs alone is marked as well
abbrev pub NeedsFollow : Type 0
NeedsFollow =
    (b c : Workbook) (words more : List (List ℕ)) (customs : List (List ℕ × Rule)) (today : ℤ) (links : Links) (marks changed : List Node) (kept : Kept) →
    Follow b words customs today links marks kept → KeepNumbers words more → AreNumbered more c.names → LeavesToNeeds b c more changed → AreKnown more changed →
    Follow c more customs today links (marks ++ changed) kept

-- ---- what a word finds

-- the same name is found, or none is both times
abbrev pub same_found : Option Key → Option Key → Bool
same_found (Some k) (Some l) = same_key k l
same_found None None = true
same_found k l = false

-- where the name is there before and after, each word finds the same on each sheet
abbrev pub ChangedIsFoundAlike : Type 0
ChangedIsFoundAlike =
    (b c : Workbook) (key : Key) (word : List ℕ) (sheet : ℕ) → DifferInName b c key → is_some (tree_in b.names key) ≡ true → is_some (tree_in c.names key) ≡ true →
    found b.names word sheet ≡ found c.names word sheet

-- where the name isn't there afterwards, a word finds the same unless it found the name
abbrev pub RemovedWasFound : Type 0
RemovedWasFound =
    (b c : Workbook) (key : Key) (word : List ℕ) (sheet : ℕ) → DifferInName b c key → is_some (tree_in c.names key) ≡ false →
    (found b.names word sheet ≡ found c.names word sheet) ⊎ (found b.names word sheet ≡ Some key)

-- the word found nothing; or it found the name of the whole workbook, and this one is the sheet's own
abbrev pub IsGivenWay : Workbook → Key → List ℕ → ℕ → Type 0
IsGivenWay b key word sheet =
    (found b.names word sheet ≡ None) ⊎ ((found b.names word sheet ≡ Some (key_of None word)) × (key.scope ≡ Some sheet))

-- where the name wasn't there before, a word finds the same unless it finds the name now, and found none or the whole workbook's before
abbrev pub AddedIsFound : Type 0
AddedIsFound =
    (b c : Workbook) (key : Key) (word : List ℕ) (sheet : ℕ) → DifferInName b c key → is_some (tree_in b.names key) ≡ false →
    (found b.names word sheet ≡ found c.names word sheet) ⊎ ((found c.names word sheet ≡ Some key) × IsGivenWay b key word sheet)

-- ---- one name

-- the list has the name, and each node whose formula uses its word where that finds another name in the second workbook, or one in
-- only one of the two
pub record HaveRebound (b c : Workbook) (words : List (List ℕ)) (key : Key) (changed : List Node) : Type 0 where
  pub itself : (a : Node) → node_at words a ≡ Some (book.name key) → IsTrue (has a changed)
  pub users : (a : Node) (x : book.Node) (t : Term Corner) → node_at words a ≡ Some x → tree_at b x ≡ Some t → UsesWord t key.word →
      same_found (found b.names key.word (sheet_of (home_of x))) (found c.names key.word (sheet_of (home_of x))) ≡ false → IsTrue (has a changed)

-- a change of one name comes to all nodes by their needs but to the name and those for whose formulas its word finds another one
abbrev pub NameLeavesToNeeds : Type 0
NameLeavesToNeeds =
    (b c : Workbook) (words : List (List ℕ)) (key : Key) (changed : List Node) → DifferInName b c key → HaveRebound b c words key changed → LeavesToNeeds b c words changed

-- and leaves all but these alone where the name is added or removed
abbrev pub ReboundLeavesAlone : Type 0
ReboundLeavesAlone =
    (b c : Workbook) (words : List (List ℕ)) (key : Key) (changed : List Node) → DifferInName b c key →
    (is_some (tree_in b.names key) && is_some (tree_in c.names key)) ≡ false → HaveRebound b c words key changed → LeavesAlone b c words changed
