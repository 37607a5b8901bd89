-- The numbers of statuses. Source: this project's own.
use Rattle.std.specs.Prelude.{ℕ, ◌==◌, List, [], ◌∷◌, map, find, unwrap_or, Result, Ok, Err}
use Rattle.book_model.specs.declared.refusal.Refusal.TheVariants as refusal
use Rattle.book_model.specs.declared.refusal.Refusal.{Refusal}
use Rattle.book_model.specs.RefusalNames.{refusal_number}
use Rattle.book_engine.specs.Stop as stops
use Rattle.book_engine.specs.Stop.TheVariants as stop
use Rattle.engine_face.specs.declared.status.Status.{Status}
use Rattle.engine_face.specs.declared.status.Status.TheVariants.{Done, Refused, NoMemory, NoRoom, NotOpen, NotUtf8, BadLimit, BadTable, StillOpen, BadNumber, BadCells, BadChange}

-- the number of a status
abbrev pub status_number : Status → ℕ
status_number Done = 0
status_number (Refused r) = refusal_number r
status_number NoMemory = 64
status_number NoRoom = 65
status_number NotOpen = 66
status_number NotUtf8 = 67
status_number BadLimit = 68
status_number BadTable = 69
status_number StillOpen = 70
status_number BadNumber = 71
status_number BadCells = 72
status_number BadChange = 73

-- all refusals
abbrev pub refusals : List Refusal
refusals =
    refusal.NoSheet ∷ refusal.SheetNameTaken ∷ refusal.SheetNameInvalid ∷ refusal.Outside ∷ refusal.SizeLimit ∷ refusal.CellLimit ∷ refusal.NameTaken
    ∷ refusal.NameInvalid ∷ refusal.NoSuchName ∷ refusal.RelativeAddress ∷ refusal.NothingToUndo ∷ refusal.NothingToRedo ∷ refusal.NothingToPaste
    ∷ refusal.Suspended ∷ refusal.BatchOpen ∷ refusal.NoBatch ∷ refusal.BadSpan ∷ refusal.TextLimit ∷ refusal.SheetLimit ∷ refusal.BadFormula ∷ []

-- all statuses
abbrev pub statuses : List Status
statuses = Done ∷ NoMemory ∷ NoRoom ∷ NotOpen ∷ NotUtf8 ∷ BadLimit ∷ BadTable ∷ StillOpen ∷ BadNumber ∷ BadCells ∷ BadChange ∷ map Refused refusals

-- the status of a number
unfoldable pub status_numbered : ℕ → Status
status_numbered n = unwrap_or (find (λ s. status_number s == n) statuses) Done

-- how a call ended that stopped
abbrev pub status_of_stop : stops.Stop → Status
status_of_stop (stop.Refused r) = Refused r
status_of_stop stop.NoMemory = NoMemory

-- how a call ended that answered or stopped
abbrev pub status_of_end : {X : Type 0} → Result X stops.Stop → Status
status_of_end (Ok answer) = Done
status_of_end (Err s) = status_of_stop s
