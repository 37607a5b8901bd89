-- Which nodes to gather before an operation is taken back: what it bent and lost is found in the workbook that it led to.
-- Source: this project's own.
use Rattle.std.specs.Prelude.{◌≡◌, ◌++◌, ◌||◌, Bool, true, false, ℕ, ℤ, List, Some, None, is_some, IsTrue}
use Rattle.std.specs.FinMap as map
use Rattle.cell_addr.specs.declared.place.Place.{Place}
use Rattle.cell_value.specs.declared.fault.FaultKind.{FaultKind}
use Rattle.cell_value.specs.declared.fault.FaultKind.TheVariants as faults
use Rattle.custom_fn.specs.declared.rule.Rule.{Rule}
use Rattle.formula_tree.specs.StandsFor.{at_home}
use Rattle.formula_tree.specs.Term.{Term, fault, prefix, percent, binary, call, paren, Terms, no_terms, term}
use Rattle.formula_tree.specs.declared.reference.Corner.{Corner}
use Rattle.formula_tree.specs.declared.reference.Home.{Home}
use Rattle.formula_tree.specs.declared.reference.Ref.{Ref}
use Rattle.shift_core.specs.Opposite.{opposite_of}
use Rattle.shift_core.specs.Sound.{IsSound}
use Rattle.shift_core.specs.Tables.{place_after}
use Rattle.shift_core.specs.declared.shift.Shift.{Shift}
use Rattle.tree_rewrite.specs.Rewritten.{rewritten}
use Rattle.book_values.specs.Names.{Names}
use Rattle.book_values.specs.Workbook as book
use Rattle.book_values.specs.Workbook.{Workbook, tree_at}
use Rattle.dep_graph.specs.Bent.{IsBentBy}
use Rattle.dep_graph.specs.Needs.{Links}
use Rattle.dep_graph.specs.Nodes.{has}
use Rattle.dep_graph.specs.Shifted.{AreShifted, node_after}
use Rattle.dep_graph.specs.declared.node.Node.{Node}
use Rattle.dep_graph.specs.declared.node.Node.TheVariants.{Cell}
use Rattle.recalc_core.specs.Kept.{Kept}
use Rattle.recalc_core.specs.Laws.{AreKnown}
use Rattle.recalc_core.specs.Links.{IsLinkOf}
use Rattle.recalc_core.specs.Moves.{carried_kept}
use Rattle.recalc_core.specs.Nodes.{node_at}
use Rattle.recalc_core.specs.Shifted.{from_over}
use Rattle.marked_values.specs.Gathered.{AreRestored, AreTakenAlong, AreUnsettled}
use Rattle.marked_values.specs.Marks.{Follow, IsBookInside}
use Rattle.marked_values.specs.Shifts.{IsBookAfter}
use Rattle.restored_values.specs.Probes.{probe_of}

-- the fault of a lost reference
abbrev pub is_ref : FaultKind → Bool
is_ref faults.Ref = true
is_ref kind = false

abbrev mutual
  -- a formula has a lost reference: the fault #REF! is a part of it
  pub has_lost : {R : Type 0} → Term R → Bool
  has_lost (fault kind) = is_ref kind
  has_lost (prefix s t) = has_lost t
  has_lost (percent t) = has_lost t
  has_lost (binary o l r) = has_lost l || has_lost r
  has_lost (call word ts) = any_has_lost ts
  has_lost (paren t) = has_lost t
  has_lost t = false

  pub any_has_lost : {R : Type 0} → Terms R → Bool
  any_has_lost no_terms = false
  any_has_lost (term t ts) = has_lost t || any_has_lost ts

-- it has, wherever it stands
abbrev pub LostAnywhere : Type 0
LostAnywhere = (home : Home) (t : Term Ref) → has_lost (at_home home t) ≡ has_lost t

-- a formula that was linked to what an operation loses has a lost reference after it
abbrev pub LostAreSeen : Type 0
LostAreSeen =
    (s : Shift) (words : List (List ℕ)) (names : Names) (sheet : ℕ) (t : Term Corner) (d : Node) →
    IsLinkOf words names sheet t d → node_after s d ≡ None → IsTrue (has_lost (rewritten s t))

-- the list has each node of the workbook after an operation of which the operation may have bent the formula: it is linked to what
-- the operation's probe bends, or has a lost reference
pub record AreSuspects (s : Shift) (c : Workbook) (words : List (List ℕ)) (links : Links) (suspects : List Node) : Type 0 where
  pub bent : (probe : Shift) (a : Node) → probe_of s ≡ Some probe → IsBentBy probe links a → IsTrue (has a suspects)
  pub lost : (a : Node) (x : book.Node) (t : Term Corner) → node_at words a ≡ Some x → tree_at c x ≡ Some t → has_lost t ≡ true → IsTrue (has a suspects)

-- the list has each filled cell of the workbook that the operation removes
abbrev pub AreRemoved : Shift → Workbook → List Node → Type 0
AreRemoved s b removed = (p : Place) → place_after s p ≡ None → is_some (map.get b.cells p) ≡ true → IsTrue (has (Cell p) removed)

-- what was marked or suspect, taken along where the operation is taken back, and what it had removed, is what comes back then
abbrev pub SuspectsAreRestored : Type 0
SuspectsAreRestored =
    (s back : Shift) (b c : Workbook) (words : List (List ℕ)) (customs : List (List ℕ × Rule)) (today : ℤ) (links : Links) (marks suspects more : List Node) (kept : Kept) →
    IsSound s → opposite_of s ≡ Some back → IsBookInside b → IsBookAfter s b c → Follow c words customs today links marks kept →
    AreSuspects s c words links suspects → AreTakenAlong back (marks ++ suspects) more → AreRemoved s b more → AreRestored s b words more

-- so where these are marked after that, links and kept values that went back with their nodes follow the workbook from before the
-- operation
abbrev pub SuspectsBringBack : Type 0
SuspectsBringBack =
    (s back : Shift) (b c : Workbook) (words : List (List ℕ)) (customs : List (List ℕ × Rule)) (today : ℤ) (old new : Links) (marks touched more : List Node) (kept : Kept) →
    IsSound s → opposite_of s ≡ Some back → IsBookInside b → IsBookAfter s b c → Follow c words customs today old marks kept → AreShifted back old new →
    AreUnsettled back c words touched → AreSuspects s c words old touched → AreTakenAlong back (marks ++ touched) more → AreRemoved s b more → AreKnown words more →
    Follow b words customs today new more (carried_kept (from_over back) kept)
