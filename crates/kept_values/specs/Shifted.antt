-- Values that follow a workbook over a structural operation. Source: this project's own.
use Rattle.std.specs.Prelude.{◌≡◌, ◌⊎◌, ℕ, ℤ, Bool, true, false, List, Option, Some, None, is_some, if◌then◌else◌, IsTrue}
use Rattle.std.specs.FinMap as map
use Rattle.cell_addr.specs.declared.place.Place.{Place}
use Rattle.custom_fn.specs.declared.rule.Rule.{Rule}
use Rattle.formula_tree.specs.Reference.{sheet_of}
use Rattle.shift_core.specs.Form.{form_of}
use Rattle.shift_core.specs.declared.shift.Shift.{Shift}
use Rattle.shift_core.specs.declared.shift.Shift.TheVariants.{DropSheet}
use Rattle.book_values.specs.Names.{Key, tree_in}
use Rattle.book_values.specs.Workbook as book
use Rattle.book_values.specs.Workbook.{Workbook, home_of, scope_sheet}
use Rattle.dep_graph.specs.Bent.{IsBentBy}
use Rattle.dep_graph.specs.Needs.{Links}
use Rattle.dep_graph.specs.Nodes.{has}
use Rattle.dep_graph.specs.Shifted.{node_after}
use Rattle.dep_graph.specs.declared.node.Node.{Node}
use Rattle.dep_graph.specs.declared.node.Node.TheVariants.{Cell, Name, Range, Whole}
use Rattle.recalc_core.specs.Kept.{stands}
use Rattle.recalc_core.specs.Laws.{AreKnown}
use Rattle.recalc_core.specs.Nodes.{AreNumbered, node_at}
use Rattle.recalc_core.specs.Shifted.{drops_scope}
use Rattle.marked_values.specs.Marks.{IsBookInside}
use Rattle.marked_values.specs.Shifts.{IsBookAfter, is_moved_cell}
use Rattle.restored_values.specs.Probes.{probe_of}
use Rattle.restored_values.specs.Suspects.{AreRemoved}
use Rattle.kept_values.specs.Values.{Follows, asks_in, links_in, loses_in, marks_in}
use Rattle.kept_values.specs.declared.values.Values.{Values}

-- the list has each filled cell of a block that the operation moves and of where that goes, and each name of a dropped sheet
pub record HasTouched (s : Shift) (b : Workbook) (words : List (List ℕ)) (touched : List Node) : Type 0 where
  pub filled : (p : Place) → is_moved_cell s p ≡ true → is_some (map.get b.cells p) ≡ true → IsTrue (has (Cell p) touched)
  pub names : (a : Node) (key : Key) → node_at words a ≡ Some (book.name key) → drops_scope (form_of s) (scope_sheet key.scope) ≡ true → is_some (tree_in b.names key) ≡ true → IsTrue (has a touched)

-- where the first values follow a workbook of which the list has what the operation touches, the second ones follow the workbook after it
abbrev pub FollowsOver : Shift → List Node → Values → Values → Type 0
FollowsOver s touched v w =
    (b c : Workbook) (words : List (List ℕ)) (customs : List (List ℕ × Rule)) (today : ℤ) →
    IsBookInside b → IsBookAfter s b c → AreNumbered words b.names → HasTouched s b words touched → AreKnown words touched →
    Follows b words customs today v → Follows c words customs today w

-- where the first values follow the workbook after an operation, and the lists have what taking it back touches there and what it had
-- removed, the second ones follow the workbook before it
abbrev pub FollowsBack : Shift → Shift → List Node → List Node → Values → Values → Type 0
FollowsBack s back touched removed v w =
    (b c : Workbook) (words : List (List ℕ)) (customs : List (List ℕ × Rule)) (today : ℤ) →
    IsBookInside b → IsBookAfter s b c → AreNumbered words c.names → HasTouched back c words touched → AreKnown words touched → AreRemoved s b removed → AreKnown words removed →
    Follows c words customs today v → Follows b words customs today w

-- the list has each node of a sheet, a cell or a name, that the workbook has
abbrev pub HasOfSheet : ℕ → Workbook → List (List ℕ) → List Node → Type 0
HasOfSheet sheet b words nodes = (a : Node) (x : book.Node) → node_at words a ≡ Some x → sheet_of (home_of x) ≡ sheet → stands b x ≡ true → IsTrue (has a nodes)

-- where the first values follow a workbook without a sheet that was dropped, and the list has what of the sheet comes back, the second ones
-- follow the workbook with the sheet
abbrev pub FollowsReturn : ℕ → List Node → Values → Values → Type 0
FollowsReturn sheet nodes v w =
    (b c : Workbook) (words : List (List ℕ)) (customs : List (List ℕ × Rule)) (today : ℤ) →
    IsBookInside b → IsBookAfter (DropSheet sheet) b c → AreNumbered words b.names → HasOfSheet sheet b words nodes → AreKnown words nodes →
    Follows c words customs today v → Follows b words customs today w

-- a cell of a block that the operation moves, or of where that goes
abbrev pub moved_cell : Shift → Node → Option Node
moved_cell s (Cell p) = if is_moved_cell s p then Some (Cell p) else None
moved_cell s (Name scope word) = None
moved_cell s (Range b) = None
moved_cell s (Whole w) = None

-- tests whether an operation may touch a node, beside what it bends: a cell of a block that it moves or of where that goes, or a name of a
-- dropped sheet
abbrev pub may_touch : Shift → Node → Bool
may_touch s (Cell p) = is_moved_cell s p
may_touch s (Name scope word) = drops_scope (form_of s) scope
may_touch s (Range b) = false
may_touch s (Whole w) = false

-- a node comes from another one: the operation takes that to it, or it is that one and a cell of a moved block or of where that goes
abbrev pub ComesFrom : Shift → Node → Node → Type 0
ComesFrom s b a = (node_after s b ≡ Some a) ⊎ (moved_cell s b ≡ Some a)

-- each mark comes from one from before, or from a node that is touched, that the operation bends, or whose formula asks where a reference is
abbrev pub MarksOver : Shift → List Node → Values → Values → Type 0
MarksOver s touched v w =
    (a : Node) → IsTrue (has a (marks_in w)) →
    (b : Node) × ComesFrom s b a × (IsTrue (has b (marks_in v)) ⊎ (IsTrue (has b touched) ⊎ (IsBentBy s (links_in v) b ⊎ (asks_in v b ≡ true))))

-- the node is linked to what the probe of an operation bends, by which it is found what the operation may have bent
abbrev pub IsProbedBy : Shift → Links → Node → Type 0
IsProbedBy s links a = (probe : Shift) × (probe_of s ≡ Some probe) × IsBentBy probe links a

-- where the operation is taken back, each mark is a cell that it had removed, or comes by the opposite from a mark from before, from a node that
-- is touched or that the operation may have bent, or from one whose formula asks where a reference is or has lost one
abbrev pub MarksBack : Shift → Shift → List Node → List Node → Values → Values → Type 0
MarksBack s back touched removed v w =
    (a : Node) → IsTrue (has a (marks_in w)) →
    IsTrue (has a removed)
    ⊎ ((b : Node) × ComesFrom back b a × (IsTrue (has b (marks_in v)) ⊎ (IsTrue (has b touched) ⊎ (IsProbedBy s (links_in v) b ⊎ ((asks_in v b ≡ true) ⊎ (loses_in v b ≡ true))))))

-- where a dropped sheet comes back, each mark is one from before, or of a node of the list, or of a formula that asks where a reference is or has
-- lost one
abbrev pub MarksReturn : List Node → Values → Values → Type 0
MarksReturn nodes v w =
    (a : Node) → IsTrue (has a (marks_in w)) → IsTrue (has a (marks_in v)) ⊎ (IsTrue (has a nodes) ⊎ ((asks_in v a ≡ true) ⊎ (loses_in v a ≡ true)))
