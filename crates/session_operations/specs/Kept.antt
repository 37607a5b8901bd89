-- What operations leave of what a session keeps of its formulas and of values, and what a read of a value costs. Source: this project's own.
use Rattle.std.specs.Prelude.{◌≡◌, ◌+◌, ◌-◌, ◌≤◌, ⊤, ℕ, ℤ, true, List, Option, Some, None, Result, Ok, Err, IsTrue}
use Rattle.cell_addr.specs.declared.place.Block.{Block}
use Rattle.cell_addr.specs.declared.place.TheConstants.{COLS, ROWS}
use Rattle.custom_fn.specs.declared.rule.Rule.{Rule}
use Rattle.formula_tree.specs.Term.{Term}
use Rattle.formula_tree.specs.declared.reference.Corner.{Corner}
use Rattle.book_values.specs.Workbook.{Workbook}
use Rattle.book_model.specs.Content.{tree_given}
use Rattle.dep_graph.specs.Nodes.{has}
use Rattle.dep_graph.specs.declared.node.Node.{Node}
use Rattle.recalc_core.specs.Steps.{formula_cost}
use Rattle.kept_book.specs.Change.{Change}
use Rattle.kept_book.specs.Frame.{Line}
use Rattle.kept_book.specs.Kept.{line_of}
use Rattle.kept_steps.specs.Kept as kept
use Rattle.kept_steps.specs.Turned.{AreOfCells, is_listed, operation_of, to_redo, to_undo}
use Rattle.kept_steps.specs.declared.session.Session.{Session}
use Rattle.shift_core.specs.Opposite.{opposite_of}
use Rattle.shift_core.specs.declared.shift.Shift.{Shift}
use Rattle.shift_line.specs.Track.{with_spare}
use Rattle.session_values.specs.Shifted.{may_touch}
use Rattle.session_values.specs.KeptValues.{Values}
use Rattle.session_values.specs.Following.{book_of, words_in}
use Rattle.session_values.specs.Parts.{MarksPartsBack, MarksPartsForth}
use Rattle.session_values.specs.Refreshed.{TakesStepsIn}
use Rattle.session_values.specs.Shifting.{MarksShift, MarksShiftBack, is_replaced_cell}
use Rattle.session_values.specs.Touched.{AreTouched}
use Rattle.session_operations.specs.Seen.{state_of}
use Rattle.session_operations.specs.declared.parts.Parts.{Parts}
use Rattle.session_operations.specs.declared.stop.Stop.{Stop}
use Rattle.session_operations.specs.declared.stop.Stop.TheVariants.{NoMemory, Refused}

-- the line stays as it was, its operations and its positions, but for its room
abbrev pub KeepsLineIn : Session → Session → Type 0
KeepsLineIn old new = new.book.lazy.line ≡ with_spare new.book.lazy.line.spare old.book.lazy.line

-- a structural operation that is refused leaves the line; where it wants memory, the line stays or has settled
abbrev pub LeavesLineIn : {X : Type 0} → Result X Stop → Session → Session → Type 0
LeavesLineIn (Ok x) old new = ⊤
LeavesLineIn (Err (Refused r)) old new = KeepsLineIn old new
LeavesLineIn (Err NoMemory) old new = kept.StaysOrSettles old new.book.lazy

-- all places of a sheet
abbrev pub whole_sheet : ℕ → Block
whole_sheet sheet = record { sheet = sheet; top = 0; left = 0; bottom = ROWS - 1; right = COLS - 1 }

-- a structural operation is done, and what is kept goes along with it. Each mark comes from one from before, or from a node that the operation bends, that
-- asks where a reference is, or that it may touch: a cell of a block that it moves or of where that goes, or a name of a dropped sheet
pub record MarksAlong (s : Shift) (old new : Option Values) : Type 0 where
  pub touched : List Node
  pub only : (a : Node) → IsTrue (has a touched) → may_touch s a ≡ true
  pub marks : MarksShift s touched old new

-- it is taken back by its opposite. Each mark is of a cell that the changes list as replaced, or comes from one from before, or from a node that the
-- operation may have bent, that asks where a reference is or has lost one, or that the opposite may touch
pub record MarksReturned (s back : Shift) (changes : List Change) (old new : Option Values) : Type 0 where
  pub touched : List Node
  pub removed : List Node
  pub only : (a : Node) → IsTrue (has a touched) → may_touch back a ≡ true
  pub replaced : (a : Node) → IsTrue (has a removed) → is_replaced_cell changes a ≡ true
  pub marks : MarksShiftBack s back touched removed old new

-- a step is taken back or done again. Where it is one structural operation that another one takes back, this holds of both; where it changes cells,
-- or which sheets there are, alone, those that it lists may be marked; and of any other step, which drops a sheet, changes one name or has several
-- parts, that holds
pub record MarksStep (line : Line) (changes : List Change) (Marks : Shift → Shift → Type 0) (Parts : Type 0) (old new : Option Values) : Type 0 where
  pub operation : (s back : Shift) → operation_of line changes ≡ Some s → opposite_of s ≡ Some back → Marks s back
  pub cells : AreOfCells changes → AreTouched (is_listed changes) old new
  pub parts : ¬ AreOfCells changes → ((s back : Shift) → operation_of line changes ≡ Some s → opposite_of s ≡ Some back → ⊥) → Parts

-- so by undo, and by redo; of any other step each part leaves its marks, one after the other, and takes along those of the parts before it
abbrev pub MarksUndoneIn : Session → Option Values → Option Values → Type 0
MarksUndoneIn s old new = MarksStep (line_of s.book) (to_undo s) (λ operation back. MarksReturned operation back (to_undo s) old new) (MarksPartsBack s (to_undo s) old new) old new

abbrev pub MarksRedoneIn : Session → Option Values → Option Values → Type 0
MarksRedoneIn s old new = MarksStep (line_of s.book) (to_redo s) (λ operation back. MarksAlong operation old new) (MarksPartsForth s (to_redo s) old new) old new

-- a read of a value: only what is marked, or what its needs lead to, is worked out, each at most once; where nothing is kept, each place
-- and each name at most once
abbrev pub WorksOutIn : List (List ℕ × Rule) → ℤ → Parts → ℕ → ℕ → Type 0
WorksOutIn customs today p old new = TakesStepsIn (book_of p.session) (words_in p.session) customs today p.values.values old new

-- what a formula costs that is tried on a sheet, if there is one
abbrev pub tried_cost : Workbook → List (List ℕ × Rule) → ℤ → ℕ → Option (Term Corner) → ℕ
tried_cost b customs today sheet (Some t) = formula_cost b customs today sheet t
tried_cost b customs today sheet None = 0

-- a formula that is tried: as a read of a value, and then what the formula costs
abbrev pub TriesOutIn : List (List ℕ × Rule) → ℤ → Parts → ℕ → List ℕ → ℕ → ℕ → Type 0
TriesOutIn customs today p sheet text old new =
    (middle : ℕ) × WorksOutIn customs today p old middle × (new ≤ middle + tried_cost (book_of p.session) customs today sheet (tree_given (state_of p).book.sheets sheet text))
