-- What the operations of a session leave of the nodes of its workbook. Source: this project's own.
use Rattle.std.specs.Prelude.{◌≡◌, ◌⊎◌, ◌∷◌, [], ℕ, Bool, true, false, List, Option, Some, None, is_some, IsTrue}
use Rattle.std.specs.FinMap as map
use Rattle.cell_addr.specs.Place.{IsBlockInside, covers}
use Rattle.cell_addr.specs.declared.place.Block.{Block}
use Rattle.cell_addr.specs.declared.place.Place.{Place}
use Rattle.shift_core.specs.Carried.{destination}
use Rattle.shift_core.specs.Sound.{IsSound as IsSoundShift}
use Rattle.shift_core.specs.declared.shift.Shift.{Shift}
use Rattle.formula_tree.specs.Term.{Term}
use Rattle.formula_tree.specs.declared.reference.Corner.{Corner}
use Rattle.book_values.specs.Book.{Book as Contents}
use Rattle.book_values.specs.Names.{Key}
use Rattle.book_values.specs.Workbook as book
use Rattle.dep_graph.specs.Nodes.{has}
use Rattle.dep_graph.specs.declared.node.Node.{Node}
use Rattle.dep_graph.specs.declared.node.Node.TheVariants.{Cell}
use Rattle.recalc_core.specs.Edits.{HaveUsers}
use Rattle.recalc_core.specs.Nodes.{AreNumbered, node_at}
use Rattle.marked_values.specs.Changes.{LeavesAlone}
use Rattle.marked_values.specs.Marks.{IsBookInside}
use Rattle.marked_values.specs.NameMarks.{HaveFinders, HaveLinked}
use Rattle.marked_values.specs.Rebound.{LeavesToNeeds}
use Rattle.marked_values.specs.Shifts.{IsBookAfter}
use Rattle.book_model.specs.Answers.{valued}
use Rattle.book_model.specs.Changes.{emptied, renamed, shifted, with_content, with_copy, with_name, with_sheet}
use Rattle.book_model.specs.Operation.{structural}
use Rattle.book_model.specs.Refusals.{cause}
use Rattle.book_model.specs.Sound.{IsSound}
use Rattle.book_model.specs.Workbook.{State, Workbook}

-- the workbook of a sound session lies within the limits of its sheets
abbrev pub SessionsAreInside : Type 0
SessionsAreInside = (d : State) → IsSound d → IsBookInside (valued d.book)

-- a structural operation that no cause refuses is sound, and leads to the workbook after it
abbrev pub AcceptedShiftsLeadOn : Type 0
AcceptedShiftsLeadOn =
    (s : Shift) (d : State) → IsSound d → cause (structural s) d ≡ None → IsSoundShift s × IsBookAfter s (valued d.book) (valued (shifted s d.book))

-- a text that is given to a cell leaves all nodes alone but the cell
abbrev pub SettingLeavesAlone : Type 0
SettingLeavesAlone =
    (at : Place) (text : List ℕ) (b : Workbook) (words : List (List ℕ)) → LeavesAlone (valued b) (valued (with_content at text b)) words (Cell at ∷ [])

-- emptied cells leave all nodes alone but those of them that were filled
abbrev pub EmptyingLeavesAlone : Type 0
EmptyingLeavesAlone =
    (test : Place → Bool) (b : Workbook) (words : List (List ℕ)) (changed : List Node) →
    ((p : Place) → test p ≡ true → is_some (map.get b.cells p) ≡ true → IsTrue (has (Cell p) changed)) →
    LeavesAlone (valued b) (valued (emptied test b)) words changed

-- a pasted copy leaves all nodes alone but the cells where it comes that are filled before or after
abbrev pub PastingLeavesAlone : Type 0
PastingLeavesAlone =
    (area : Block) (copy : Contents) (at : Place) (b : Workbook) (words : List (List ℕ)) (changed : List Node) → IsBlockInside area →
    ((p : Place) → covers (destination area at) p ≡ true → (is_some (map.get b.cells p) ≡ true) ⊎ (is_some (map.get (with_copy area copy at b).cells p) ≡ true) → IsTrue (has (Cell p) changed)) →
    LeavesAlone (valued b) (valued (with_copy area copy at b)) words changed

-- a name that is given a tree, or none, leaves all nodes alone but the name and those whose formulas use its word
abbrev pub NamingLeavesAlone : Type 0
NamingLeavesAlone =
    (key : Key) (tree : Option (Term Corner)) (b : Workbook) (words : List (List ℕ)) (changed : List Node) → HaveUsers (valued b) words key changed →
    LeavesAlone (valued b) (valued (with_name key tree b)) words changed

-- a name that is there and is given another tree comes by their needs to all nodes but its own
abbrev pub ChangingLeavesToNeeds : Type 0
ChangingLeavesToNeeds =
    (key : Key) (tree : Term Corner) (b : Workbook) (words : List (List ℕ)) (n : Node) (changed : List Node) → is_some (map.get b.names key) ≡ true →
    AreNumbered words (valued b).names → node_at words n ≡ Some (book.name key) → IsTrue (has n changed) →
    LeavesToNeeds (valued b) (valued (with_name key (Some tree) b)) words changed

-- a name that is removed leaves all nodes alone but its own and those that are linked to it
abbrev pub RemovingLeavesAlone : Type 0
RemovingLeavesAlone =
    (key : Key) (b : Workbook) (words : List (List ℕ)) (n : Node) (changed : List Node) → AreNumbered words (valued b).names → node_at words n ≡ Some (book.name key) →
    HaveLinked (valued b) words n changed → LeavesAlone (valued b) (valued (with_name key None b)) words changed

-- a name that isn't there and is given a tree leaves all nodes alone but its own and those for whose formulas its word finds it then
abbrev pub AddingLeavesAlone : Type 0
AddingLeavesAlone =
    (key : Key) (tree : Term Corner) (b : Workbook) (words : List (List ℕ)) (n : Node) (changed : List Node) → is_some (map.get b.names key) ≡ false →
    AreNumbered words (valued b).names → node_at words n ≡ Some (book.name key) → HaveFinders (valued b) words n key changed →
    LeavesAlone (valued b) (valued (with_name key (Some tree) b)) words changed

-- a sheet that is added or renamed leaves the cells and the names
abbrev pub SheetsLeaveAlone : Type 0
SheetsLeaveAlone = (sheet : ℕ) (name : List ℕ) (b : Workbook) → (valued (with_sheet sheet name b) ≡ valued b) × (valued (renamed sheet name b) ≡ valued b)
