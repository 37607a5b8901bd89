-- What the calls of a session do and tell. Source: this project's own.
use Rattle.std.specs.Prelude.{◌≡◌, ◌≤◌, ◌<◌, ◌==◌, ◌↔◌, if◌then◌else◌, ℕ, ℤ, Bool, true, false, List, [], length, Option, None, Some, Result, Ok, Err, ⊤}
use Rattle.cell_addr.specs.declared.place.Place.{Place}
use Rattle.cell_addr.specs.declared.place.TheConstants.{NO_SHEET}
use Rattle.custom_fn.specs.declared.rule.Rule.{Rule}
use Rattle.fix_num.specs.Text.{text_of}
use Rattle.fix_num.specs.declared.error.NumError.{NumError}
use Rattle.book_model.specs.Clipboard.{nothing}
use Rattle.book_model.specs.Given.{session_given}
use Rattle.book_model.specs.declared.limits.TheConstants.{MAX_UNDO}
use Rattle.book_model.specs.Operation.{Operation, set}
use Rattle.book_model.specs.Refusals.{cause}
use Rattle.book_model.specs.Session.{next}
use Rattle.book_model.specs.Workbook.{State}
use Rattle.book_model.specs.declared.refusal.Refusal.{Refusal}
use Rattle.book_model.specs.declared.refusal.Refusal.TheVariants.{NoSheet}
use Rattle.book_engine.specs.Engine.{StandsFor}
use Rattle.book_engine.specs.Kept.{AreCaughtUp, ComeToCursor, GoOnWithin}
use Rattle.book_engine.specs.Seen.{with_clipboard}
use Rattle.rule_table.specs.Rules.{rules_of}
use Rattle.engine_face.specs.Shown.{Fits, filled, truth_bit}
use Rattle.engine_face.specs.declared.session.Session.{Session}
use Rattle.engine_face.specs.declared.status.Status.{Status}
use Rattle.engine_face.specs.declared.status.Status.TheVariants.{Done, Refused, NoMemory, NoRoom, BadLimit, BadTable, BadNumber}

-- the session's engine is in this session of the plain machine
abbrev pub Stands : Session → State → Type 0
Stands s d = StandsFor rules_of s.engine d

-- a call for an operation that answers nothing, whichever session it is made in: where it is done no cause holds, and where
-- it is refused the cause is the operation's, and it leads to the next session; for want of memory the session stays; and it
-- ends in no other way
abbrev pub Asks : Operation → Session → Session → Status → Type 0
Asks op old new Done = (d : State) → Stands old d → (cause op d ≡ None) × Stands new (next op d)
Asks op old new (Refused r) = (d : State) → Stands old d → (cause op d ≡ Some r) × Stands new (next op d)
Asks op old new NoMemory = (d : State) → Stands old d → Stands new d
Asks op old new status = ⊥

-- a call for an operation that answers something, for which there is a place in the room or not: as above, but where there is
-- none the call ends so
abbrev pub AsksFor : Operation → (State → Bool) → Session → Session → Status → Type 0
AsksFor op has_place old new Done = (d : State) → Stands old d → (cause op d ≡ None) × (has_place d ≡ true) × Stands new (next op d)
AsksFor op has_place old new NoRoom = (d : State) → Stands old d → (cause op d ≡ None) × (has_place d ≡ false) × Stands new (next op d)
AsksFor op has_place old new (Refused r) = (d : State) → Stands old d → (cause op d ≡ Some r) × Stands new (next op d)
AsksFor op has_place old new NoMemory = (d : State) → Stands old d → Stands new d
AsksFor op has_place old new status = ⊥

-- a question that is no operation, and may have a cause to be refused: where it is done or its answer has no place in the room no
-- cause holds, and where it is refused the cause is the first that holds; the session stays in each case, and it ends in no other way
abbrev pub Finds : (State → Option Refusal) → (State → Bool) → Session → Session → Status → Type 0
Finds why has_place old new Done = (d : State) → Stands old d → (why d ≡ None) × (has_place d ≡ true) × Stands new d
Finds why has_place old new NoRoom = (d : State) → Stands old d → (why d ≡ None) × (has_place d ≡ false) × Stands new d
Finds why has_place old new (Refused r) = (d : State) → Stands old d → (why d ≡ Some r) × Stands new d
Finds why has_place old new NoMemory = (d : State) → Stands old d → Stands new d
Finds why has_place old new status = ⊥

-- nothing waits to be pasted any more, and all else of the session stays
abbrev pub Clears : Session → Session → Type 0
Clears old new = (d : State) → Stands old d → Stands new (with_clipboard nothing d)

-- the session stays
abbrev pub Stays : Session → Session → Type 0
Stays old new = (d : State) → Stands old d → Stands new d

-- idle time is spent: each formula is kept as it was or as of the cursor, and all together went on over so many operations at most, and
-- each that lags still has more before it than are left of these; or there was no memory. Who calls the session never looks inside
unfoldable pub Settles : ℕ → Session → Session → Status → Type 0
Settles budget old new Done = ComeToCursor old.engine new.engine × GoOnWithin budget old.engine new.engine
Settles budget old new NoMemory = ⊤
Settles budget old new status = ⊥

-- and it is told whether no formula lags any more
abbrev pub SettledTold : Session → ℕ → ℕ → Status → Type 0
SettledTold new had told Done = (all : Bool) × (told ≡ truth_bit all) × ((all ≡ true) ↔ AreCaughtUp new.engine)
SettledTold new had told status = told ≡ had

-- a call that is always done
abbrev pub AsksAlways : Operation → Session → Session → Type 0
AsksAlways op old new = (d : State) → Stands old d → Stands new (next op d)

-- what such a call wrote into a room: the items of the answer at its head where it is done, else nothing
abbrev pub Wrote : {X : Type 0} → (State → List X) → List X → List X → Session → Status → Type 0
Wrote items room written old Done = (d : State) → Stands old d → written ≡ filled (items d) room
Wrote items room written old status = written ≡ room

-- what it told beside: this of the session where it is done and where the answer has no place, else nothing
abbrev pub Told : {X : Type 0} → (State → X) → X → X → Session → Status → Type 0
Told answer had told old Done = (d : State) → Stands old d → told ≡ answer d
Told answer had told old NoRoom = (d : State) → Stands old d → told ≡ answer d
Told answer had told old status = told ≡ had

-- it told something of which this holds, where it is done, else nothing
abbrev pub Tells : {X : Type 0} → (State → X → Type 0) → X → X → Session → Status → Type 0
Tells Holds had told old Done = (d : State) → Stands old d → Holds d told
Tells Holds had told old status = told ≡ had

-- the scope of a number: the whole workbook where no sheet can have the number
abbrev pub scope_of : ℕ → Option ℕ
scope_of n = if n == NO_SHEET then None else Some n

-- a session is opened with the functions that are told, where so many steps can be undone, or it is said why not
abbrev pub IsOpened : ℕ → ℤ → Option (List (List ℕ × Rule)) → Result Session Status → Type 0
IsOpened limit day (Some rules) (Ok s) = (limit ≤ MAX_UNDO) × Stands s (session_given limit rules day [])
IsOpened limit day told (Err BadLimit) = MAX_UNDO < limit
IsOpened limit day told (Err BadTable) = told ≡ None
IsOpened limit day told (Err NoMemory) = ⊤
IsOpened limit day told end = ⊥

-- the text of a sheet's name in the room, or that there is no such sheet
abbrev pub NameFits : Option (List ℕ) → List ℕ → List ℕ → Status → Type 0
NameFits None room written status = (status ≡ Refused NoSheet) × (written ≡ room)
NameFits (Some name) room written status = Fits name room written status

-- how long it is
abbrev pub NameTold : Option (List ℕ) → ℕ → ℕ → Type 0
NameTold None had told = told ≡ had
NameTold (Some name) had told = told ≡ length name

-- a call that gives a cell the number of so many millionths: the operation that gives its text; no such number is given, and all stays
abbrev pub AsksNumber : Place → Result ℤ NumError → Session → Session → Status → Type 0
AsksNumber at (Ok number) old new status = Asks (set at (text_of number)) old new status
AsksNumber at (Err error) old new status = (status ≡ BadNumber) × (new ≡ old)

-- no step can be undone or done again any more, and all else of the session stays
abbrev pub Forgets : Session → Session → Type 0
Forgets old new = (d : State) → Stands old d → Stands new (record d { undo = []; redo = [] })
