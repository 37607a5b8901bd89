-- What is kept of values over the changes of a step, one after the other. Source: this project's own.
use Rattle.std.specs.Prelude.{◌≡◌, ◌||◌, ⊤, ℕ, ℤ, Bool, true, List, [], ◌∷◌, Option, Some, is_some, slice_get, IfSome, IsTrue}
use Rattle.custom_fn.specs.declared.rule.Rule.{Rule}
use Rattle.name_table.specs.declared.key.NameKey.{NameKey}
use Rattle.shift_core.specs.Opposite.{opposite_of}
use Rattle.shift_core.specs.declared.form.Form.{Form}
use Rattle.shift_core.specs.declared.form.Form.TheVariants.{Cells, Lines, Sheet}
use Rattle.shift_core.specs.declared.shift.Shift.{Shift}
use Rattle.shift_core.specs.declared.shift.Shift.TheVariants.{DropSheet}
use Rattle.book_values.specs.Names.{tree_in}
use Rattle.book_values.specs.Workbook as values
use Rattle.book_model.specs.Answers.{valued}
use Rattle.book_model.specs.Workbook.{Workbook}
use Rattle.dep_graph.specs.Nodes.{has}
use Rattle.dep_graph.specs.declared.node.Node.{Node}
use Rattle.kept_book.specs.Change.{Change, shift_of}
use Rattle.kept_book.specs.Frame.{Line, Words}
use Rattle.kept_book.specs.Kept.{line_of}
use Rattle.kept_steps.specs.Parts.{PartTurns, Turns}
use Rattle.kept_steps.specs.Turned.{IsOfCells, is_listed, key_spelt, name_alone}
use Rattle.kept_steps.specs.declared.session.Session.{Session}
use Rattle.kept_values.specs.Shifted.{may_touch}
use Rattle.kept_values.specs.declared.values.Values.{Values}
use Rattle.recalc_core.specs.Edits.{DifferInName}
use Rattle.recalc_core.specs.Nodes.{AreNumbered}
use Rattle.session_values.specs.declared.naming.NameTurn.{NameTurn}
use Rattle.session_values.specs.Following.{FollowsIn}
use Rattle.session_values.specs.Naming.{MarksTurn, had_formula, has_formula, turn_of}
use Rattle.session_values.specs.Shifting.{MarksSheetBack, MarksShift, MarksShiftBack, is_replaced_cell}
use Rattle.session_values.specs.Touched.{AreTouchedAtMost}

-- where what is kept follows the workbook after these changes, what is kept then follows the one before them, whichever workbooks the
-- changes lead from and to
abbrev pub FollowsPartsBack : Line → Words → List Change → Option Values → Option Values → Type 0
FollowsPartsBack line words cs old new =
    (b d : Workbook) (customs : List (List ℕ × Rule)) (today : ℤ) → Turns line words cs b d → FollowsIn (valued d) words customs today old → FollowsIn (valued b) words customs today new

-- and the other way round
abbrev pub FollowsPartsForth : Line → Words → List Change → Option Values → Option Values → Type 0
FollowsPartsForth line words cs old new =
    (b d : Workbook) (customs : List (List ℕ × Rule)) (today : ℤ) → Turns line words cs b d → FollowsIn (valued b) words customs today old → FollowsIn (valued d) words customs today new

-- so of one change
abbrev pub FollowsPartBack : Line → Words → Change → Option Values → Option Values → Type 0
FollowsPartBack line words c old new =
    (b d : Workbook) (customs : List (List ℕ × Rule)) (today : ℤ) → PartTurns line words c b d → FollowsIn (valued d) words customs today old → FollowsIn (valued b) words customs today new

abbrev pub FollowsPartForth : Line → Words → Change → Option Values → Option Values → Type 0
FollowsPartForth line words c old new =
    (b d : Workbook) (customs : List (List ℕ × Rule)) (today : ℤ) → PartTurns line words c b d → FollowsIn (valued b) words customs today old → FollowsIn (valued d) words customs today new

-- where what is kept follows a workbook, what is kept then follows another one that differs from it in the name of this key, which is
-- turned so
abbrev pub FollowsTurnIn : NameKey → NameTurn → Words → Option Values → Option Values → Type 0
FollowsTurnIn key turn words old new =
    (word : List ℕ) → slice_get words key.word ≡ Some word →
    (b c : values.Workbook) (customs : List (List ℕ × Rule)) (today : ℤ) →
    AreNumbered words b.names → AreNumbered words c.names → DifferInName b c (key_spelt key word) →
    is_some (tree_in b.names (key_spelt key word)) ≡ had_formula turn → is_some (tree_in c.names (key_spelt key word)) ≡ has_formula turn →
    FollowsIn b words customs today old → FollowsIn c words customs today new

-- the form is that of an operation on lines
abbrev pub IsOnLines : Form → Type 0
IsOnLines (Lines sheet axis edit) = ⊤
IsOnLines (Cells source to) = ⊥
IsOnLines (Sheet sheet) = ⊥

-- ---- which marks there are then

-- each node of the list passes the test
abbrev pub AllPass : (Node → Bool) → List Node → Type 0
AllPass test nodes = (a : Node) → IsTrue (has a nodes) → test a ≡ true

-- what comes back with a sheet that a change drops: a cell that it lists as replaced, or a name of the sheet
abbrev pub returns_with : ℕ → Change → Node → Bool
returns_with sheet c a = is_replaced_cell (c ∷ []) a || may_touch (DropSheet sheet) a

-- one change of a step of the session is taken back, and nothing is kept any more, or no more is marked than this. Where another operation
-- takes its operation back: cells that it lists as replaced, cells of a block that goes back and of where that goes, and what comes from a
-- mark from before, or from a node that the operation may have bent, that asks where a reference is or has lost one. Where it dropped a sheet: what was marked before, what comes back with the
-- sheet, and what asks where a reference is or has lost one. Where it changes cells alone: those that it lists. Where it changes one name
-- alone: what such a change marks
pub record MarksPartBack (s : Session) (c : Change) (old new : Option Values) : Type 0 where
  pub operation : (x back : Shift) → shift_of (line_of s.book) c ≡ Some x → opposite_of x ≡ Some back → (touched removed : List Node) × AllPass (may_touch back) touched × AllPass (is_replaced_cell (c ∷ [])) removed × IfSome new (λ w. MarksShiftBack x back touched removed old (Some w))
  pub sheet : (dropped : ℕ) → shift_of (line_of s.book) c ≡ Some (DropSheet dropped) → (nodes : List Node) × AllPass (returns_with dropped c) nodes × IfSome new (λ w. MarksSheetBack nodes old (Some w))
  pub cells : IsOfCells c → AreTouchedAtMost (is_listed (c ∷ [])) old new
  pub name : (key : NameKey) (before after : Option ℕ) → name_alone c ≡ Some (key, (before, after)) → MarksTurn key (turn_of (is_some after) (is_some before)) s old new

-- and one is done again. Where it has an operation: what comes from a mark from before, or from a node that the operation bends, that asks where
-- a reference is, that is a cell of a block that it moves or of where that goes, or a name of a sheet that it drops
pub record MarksPartForth (s : Session) (c : Change) (old new : Option Values) : Type 0 where
  pub operation : (x : Shift) → shift_of (line_of s.book) c ≡ Some x → (touched : List Node) × AllPass (may_touch x) touched × IfSome new (λ w. MarksShift x touched old (Some w))
  pub cells : IsOfCells c → AreTouchedAtMost (is_listed (c ∷ [])) old new
  pub name : (key : NameKey) (before after : Option ℕ) → name_alone c ≡ Some (key, (before, after)) → MarksTurn key (turn_of (is_some before) (is_some after)) s old new

-- so it is over all changes of a step, which are taken back one after the other, from the last one on
abbrev pub MarksPartsBack : Session → List Change → Option Values → Option Values → Type 0
MarksPartsBack s [] old new = new ≡ old
MarksPartsBack s (c ∷ cs) old new = (between : Option Values) × MarksPartsBack s cs old between × MarksPartBack s c between new

-- and done again from the first one on
abbrev pub MarksPartsForth : Session → List Change → Option Values → Option Values → Type 0
MarksPartsForth s [] old new = new ≡ old
MarksPartsForth s (c ∷ cs) old new = (between : Option Values) × MarksPartForth s c old between × MarksPartsForth s cs between new
