-- What is kept of values over a structural operation, and where one is taken back. Source: this project's own.
use Rattle.std.specs.Prelude.{ℕ, ℤ, ⊤, Bool, false, List, Option, Some, None}
use Rattle.custom_fn.specs.declared.rule.Rule.{Rule}
use Rattle.shift_core.specs.declared.shift.Shift.{Shift}
use Rattle.shift_core.specs.declared.shift.Shift.TheVariants.{DropSheet}
use Rattle.book_values.specs.Workbook.{Workbook}
use Rattle.dep_graph.specs.declared.node.Node.{Node}
use Rattle.dep_graph.specs.declared.node.Node.TheVariants.{Cell, Name, Range, Whole}
use Rattle.kept_book.specs.Change.{Change}
use Rattle.kept_book.specs.Kept.{IsMore}
use Rattle.kept_steps.specs.Turned.{is_replaced}
use Rattle.recalc_core.specs.Laws.{AreKnown}
use Rattle.recalc_core.specs.Nodes.{AreNumbered}
use Rattle.marked_values.specs.Marks.{IsBookInside}
use Rattle.marked_values.specs.Shifts.{IsBookAfter}
use Rattle.restored_values.specs.Suspects.{AreRemoved}
use Rattle.kept_values.specs.Shifted.{HasOfSheet, HasTouched, MarksBack, MarksOver, MarksReturn}
use Rattle.kept_values.specs.declared.values.Values.{Values}
use Rattle.session_values.specs.Following.{FollowsIn}

-- where what is kept follows a workbook of which the list has what the operation touches, what is kept then follows the workbook after
-- it, which may have more words
abbrev pub FollowsShift : Shift → List Node → Option Values → Option Values → Type 0
FollowsShift s touched old new =
    (b c : Workbook) (words more : List (List ℕ)) (customs : List (List ℕ × Rule)) (today : ℤ) →
    IsBookInside b → IsBookAfter s b c → AreNumbered words b.names → AreNumbered more c.names → IsMore words more → HasTouched s b words touched → AreKnown words touched →
    FollowsIn b words customs today old → FollowsIn c more customs today new

-- where what is kept follows the workbook after an operation, and the lists have what taking it back touches there and what it had removed,
-- what is kept then follows the workbook before it
abbrev pub FollowsShiftBack : Shift → Shift → List Node → List Node → Option Values → Option Values → Type 0
FollowsShiftBack s back touched removed old new =
    (b c : Workbook) (words : List (List ℕ)) (customs : List (List ℕ × Rule)) (today : ℤ) →
    IsBookInside b → IsBookAfter s b c → AreNumbered words c.names → HasTouched back c words touched → AreKnown words touched → AreRemoved s b removed → AreKnown words removed →
    FollowsIn c words customs today old → FollowsIn b words customs today new

-- where what is kept follows a workbook without a sheet that was dropped, and the list has what of the sheet comes back, what is kept then
-- follows the workbook with the sheet
abbrev pub FollowsSheetBack : ℕ → List Node → Option Values → Option Values → Type 0
FollowsSheetBack sheet nodes old new =
    (b c : Workbook) (words : List (List ℕ)) (customs : List (List ℕ × Rule)) (today : ℤ) →
    IsBookInside b → IsBookAfter (DropSheet sheet) b c → AreNumbered words b.names → HasOfSheet sheet b words nodes → AreKnown words nodes →
    FollowsIn c words customs today old → FollowsIn b words customs today new

-- where anything is kept, it is kept still, and each mark comes from one from before, or from a node that the operation touches, bends or that asks
-- where a reference is
abbrev pub MarksShift : Shift → List Node → Option Values → Option Values → Type 0
MarksShift s touched None None = ⊤
MarksShift s touched (Some v) (Some w) = MarksOver s touched v w
MarksShift s touched _ _ = ⊥

-- and so where the operation is taken back
abbrev pub MarksShiftBack : Shift → Shift → List Node → List Node → Option Values → Option Values → Type 0
MarksShiftBack s back touched removed None None = ⊤
MarksShiftBack s back touched removed (Some v) (Some w) = MarksBack s back touched removed v w
MarksShiftBack s back touched removed _ _ = ⊥

-- and so where a dropped sheet comes back
abbrev pub MarksSheetBack : List Node → Option Values → Option Values → Type 0
MarksSheetBack nodes None None = ⊤
MarksSheetBack nodes (Some v) (Some w) = MarksReturn nodes v w
MarksSheetBack nodes _ _ = ⊥

-- tests whether a node is a cell that one of the changes lists as replaced
abbrev pub is_replaced_cell : List Change → Node → Bool
is_replaced_cell changes (Cell p) = is_replaced changes p
is_replaced_cell changes (Name scope word) = false
is_replaced_cell changes (Range b) = false
is_replaced_cell changes (Whole w) = false
