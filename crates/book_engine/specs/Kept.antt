-- What an engine keeps of its formulas and of values. Source: this project's own.
use Rattle.std.specs.Prelude.{◌≡◌, ℕ, Bool, List, Option, Some, None, option_map, Result}
use Rattle.cell_addr.specs.Place.{covers}
use Rattle.cell_addr.specs.declared.place.Place.{Place}
use Rattle.clip_board.specs.declared.clip.Clip.{Clip}
use Rattle.clip_board.specs.declared.clip.Clip.TheVariants as clips
use Rattle.custom_fn.specs.declared.rule.Rule.{Rule}
use Rattle.formula_tree.specs.Term.{Term}
use Rattle.formula_tree.specs.declared.reference.Home.{Home}
use Rattle.formula_tree.specs.declared.reference.Ref.{Ref}
use Rattle.book_values.specs.Names.{key_of}
use Rattle.dep_graph.specs.declared.node.Node.{Node}
use Rattle.kept_book.specs.Ids.{KeepsBelow}
use Rattle.kept_book.specs.Kept as book
use Rattle.kept_book.specs.declared.book.Book.{Book}
use Rattle.kept_steps.specs.Kept as kept
use Rattle.kept_steps.specs.declared.session.Session.{Session}
use Rattle.lazy_store.specs.Store as store
use Rattle.shift_core.specs.Carried.{destination}
use Rattle.shift_core.specs.declared.shift.Shift.{Shift}
use Rattle.shift_core.specs.declared.shift.Shift.TheVariants.{MoveBlock}
use Rattle.calc_eval.specs.declared.customs.Customs.{Ghosts}
use Rattle.session_questions.specs.Values.{marks_in, merged_in}
use Rattle.session_questions.specs.KeptValues.{Values}
use Rattle.session_questions.specs.Naming.{MarksAddition, MarksChange, MarksRemoval}
use Rattle.session_questions.specs.Refreshed.{IsUnmarked}
use Rattle.session_questions.specs.Touched.{AreTouched, AreTouchedAtMost}
use Rattle.session_questions.specs.Kept.{KeepsLineIn, LeavesLineIn, MarksAlong, MarksRedoneIn, MarksUndoneIn, TriesOutIn, WorksOutIn}
use Rattle.book_engine.specs.declared.engine.Engine.{Engine}
use Rattle.session_questions.specs.Stop.{Stop}

-- the session of an engine
abbrev pub session_kept : {C : Type 0} {G : Ghosts C} → Engine C G → Session
session_kept e = e.parts.session

-- the workbook as an engine keeps it
abbrev pub book_kept : {C : Type 0} {G : Ghosts C} → Engine C G → Book
book_kept e = e.parts.session.book

-- the formula of a cell as it is kept: as of which position of the line, with home and tree as of that
abbrev pub stored_by : {C : Type 0} {G : Ghosts C} → Engine C G → Place → Option (ℕ × (Home × Term Ref))
stored_by e p = book.stored_at_place (book_kept e) p

-- each formula is kept as it was
abbrev pub KeepsAll : {C : Type 0} {G : Ghosts C} → Engine C G → Engine C G → Type 0
KeepsAll old new = store.KeepsAll (book_kept old).lazy (book_kept new).lazy

-- each formula from before is kept as it was; another one may have come
abbrev pub KeepsEarlier : {C : Type 0} {G : Ghosts C} → Engine C G → Engine C G → Type 0
KeepsEarlier old new = KeepsBelow (book_kept old).next_id (book_kept old).lazy (book_kept new).lazy

-- each formula from before that a workbook of the session has, the present one or one that undo or redo leads to, is kept as it
-- was; another one is, or is dropped
abbrev pub KeepsInUse : {C : Type 0} {G : Ghosts C} → Engine C G → Engine C G → Type 0
KeepsInUse old new = kept.KeepsInUse (session_kept old) (book_kept new).lazy

-- what a structural operation leaves: formulas as of positions up to the cursor, where it doesn't settle; where it does, those that
-- a workbook of the session has, from the base on
abbrev pub KeepsAtShift : {C : Type 0} {G : Ghosts C} → Engine C G → Engine C G → Type 0
KeepsAtShift old new = kept.KeepsAtShift (session_kept old) (book_kept new).lazy

-- how it goes on the line, without the operations before the base, where it settles first
abbrev pub GoesOn : {C : Type 0} {G : Ghosts C} → Shift → Engine C G → Engine C G → Type 0
GoesOn s old new = kept.GoesOn s (session_kept old) (book_kept new).lazy

-- and so in an engine
abbrev pub KeepsLine : {C : Type 0} {G : Ghosts C} → Engine C G → Engine C G → Type 0
KeepsLine old new = KeepsLineIn (session_kept old) (session_kept new)

abbrev pub LeavesLine : {C X : Type 0} {G : Ghosts C} → Result X Stop → Engine C G → Engine C G → Type 0
LeavesLine result old new = LeavesLineIn result (session_kept old) (session_kept new)

-- each formula but that of a cell is kept as it was
abbrev pub KeepsElsewhere : {C : Type 0} {G : Ghosts C} → Place → Engine C G → Engine C G → Type 0
KeepsElsewhere p old new = book.KeepsElsewhere p (book_kept old) (book_kept new)

-- only formulas that lag behind the cursor may be kept otherwise than before: live ones that are kept as of an earlier position, and
-- have a standing there
abbrev pub MovesLagging : {C : Type 0} {G : Ghosts C} → Engine C G → Engine C G → Type 0
MovesLagging old new = store.MovesLagging (book_kept old).lazy.line.cursor (book_kept old).lazy (book_kept new).lazy

-- each formula is kept as it was, or as of the cursor
abbrev pub ComeToCursor : {C : Type 0} {G : Ghosts C} → Engine C G → Engine C G → Type 0
ComeToCursor old new = store.StayOrComeTo (book_kept old).lazy.line.cursor (book_kept old).lazy (book_kept new).lazy

-- all formulas together went on over so many operations at most, and each that lags still has more before it than are left of these
abbrev pub GoOnWithin : {C : Type 0} {G : Ghosts C} → ℕ → Engine C G → Engine C G → Type 0
GoOnWithin budget old new = store.GoOnWithin budget (book_kept old).lazy (book_kept new).lazy

-- no formula lags behind the cursor
abbrev pub AreCaughtUp : {C : Type 0} {G : Ghosts C} → Engine C G → Type 0
AreCaughtUp e = store.AreCaughtUp (book_kept e).lazy

-- a paste of what waits: after a cut it moves a block, and otherwise it writes cells
abbrev pub KeepsAtPaste : {C : Type 0} {G : Ghosts C} → Clip → Engine C G → Engine C G → Type 0
KeepsAtPaste (clips.Cut area) old new = KeepsAtShift old new
KeepsAtPaste clip old new = KeepsInUse old new

-- what is kept of values, if anything is
abbrev pub values_kept : {C : Type 0} {G : Ghosts C} → Engine C G → Option Values
values_kept e = e.parts.values.values

-- something is kept, and nothing of it is marked
abbrev pub IsIdle : {C : Type 0} {G : Ghosts C} → Engine C G → Type 0
IsIdle e = IsUnmarked (values_kept e)

-- its marks, where anything is kept
abbrev pub marks_kept : {C : Type 0} {G : Ghosts C} → Engine C G → Option (List Node)
marks_kept e = option_map marks_in (values_kept e)

-- how many cells were merged for the summaries that are kept; none, where nothing is kept
abbrev pub merged_in_any : Option Values → ℕ
merged_in_any (Some v) = merged_in v
merged_in_any None = 0

abbrev pub merged_kept : {C : Type 0} {G : Ghosts C} → Engine C G → ℕ
merged_kept e = merged_in_any (values_kept e)

-- what is kept of values stays as it was
abbrev pub KeepsValues : {C : Type 0} {G : Ghosts C} → Engine C G → Engine C G → Type 0
KeepsValues old new = values_kept new ≡ values_kept old

-- so, but that cells of these places may be marked
abbrev pub MarksCells : {C : Type 0} {G : Ghosts C} → (Place → Bool) → Engine C G → Engine C G → Type 0
MarksCells places old new = AreTouched places (values_kept old) (values_kept new)

-- so, or nothing is kept any more
abbrev pub MarksCellsAtMost : {C : Type 0} {G : Ghosts C} → (Place → Bool) → Engine C G → Engine C G → Type 0
MarksCellsAtMost places old new = AreTouchedAtMost places (values_kept old) (values_kept new)

-- and so in an engine
abbrev pub WorksOut : {C : Type 0} {G : Ghosts C} → (C → List (List ℕ × Rule)) → Engine C G → ℕ → ℕ → Type 0
WorksOut customs e = WorksOutIn (customs e.customs) e.day e.parts

abbrev pub TriesOut : {C : Type 0} {G : Ghosts C} → (C → List (List ℕ × Rule)) → Engine C G → ℕ → List ℕ → ℕ → ℕ → Type 0
TriesOut customs e = TriesOutIn (customs e.customs) e.day e.parts

-- and in an engine: a structural operation, undo, and redo
abbrev pub MarksOperation : {C : Type 0} {G : Ghosts C} → Shift → Engine C G → Engine C G → Type 0
MarksOperation s old new = MarksAlong s (values_kept old) (values_kept new)

abbrev pub MarksUndone : {C : Type 0} {G : Ghosts C} → Engine C G → Engine C G → Type 0
MarksUndone old new = MarksUndoneIn (session_kept old) (values_kept old) (values_kept new)

abbrev pub MarksRedone : {C : Type 0} {G : Ghosts C} → Engine C G → Engine C G → Type 0
MarksRedone old new = MarksRedoneIn (session_kept old) (values_kept old) (values_kept new)

-- a paste of what waits, at a place: after a cut it moves a block, and otherwise it writes cells
abbrev pub MarksPaste : {C : Type 0} {G : Ghosts C} → Clip → Place → Engine C G → Engine C G → Type 0
MarksPaste clips.Nothing at old new = KeepsValues old new
MarksPaste (clips.Copied area cells) at old new = MarksCellsAtMost (covers (destination area at)) old new
MarksPaste (clips.Cut area) at old new = MarksOperation (MoveBlock area at) old new

-- a name of the scope gets another formula: it alone may be marked, or nothing is kept any more
abbrev pub MarksNameChanged : {C : Type 0} {G : Ghosts C} → Option ℕ → List ℕ → Engine C G → Engine C G → Type 0
MarksNameChanged scope word old new = MarksChange (key_of scope word) (session_kept new) (values_kept old) (values_kept new)

-- it is added: it, each formula that was noted to use its word where that found no name, and each that is linked to the whole workbook's name of the word
abbrev pub MarksNameAdded : {C : Type 0} {G : Ghosts C} → Option ℕ → List ℕ → Engine C G → Engine C G → Type 0
MarksNameAdded scope word old new = MarksAddition scope word (session_kept new) (values_kept old) (values_kept new)

-- it is removed: it, and each formula that is linked to it
abbrev pub MarksNameRemoved : {C : Type 0} {G : Ghosts C} → Option ℕ → List ℕ → Engine C G → Engine C G → Type 0
MarksNameRemoved scope word old new = MarksRemoval (key_of scope word) (session_kept new) (values_kept old) (values_kept new)
