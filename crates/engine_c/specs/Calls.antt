-- What an exported call does to what the caller holds. Source: this project's own.
use Rattle.std.specs.Prelude.{◌≡◌, ℕ, ℤ, List, Option, None, Some, Result, Ok, Err}
use Rattle.custom_fn.specs.declared.rule.Rule.{Rule}
use Rattle.engine_face.specs.Session.{IsOpened}
use Rattle.engine_face.specs.declared.session.Session.{Session}
use Rattle.engine_face.specs.declared.status.Status.{Status}
use Rattle.engine_face.specs.declared.status.Status.TheVariants.{Done, NotOpen}

-- this of the session before and after, by the call's status; where none is held it says so, and none is held then
abbrev pub Over : (Session → Session → Status → Type 0) → Option Session → Option Session → Status → Type 0
Over Does None new status = (status ≡ NotOpen) × (new ≡ None)
Over Does (Some old) None status = ⊥
Over Does (Some old) (Some new) status = Does old new status

-- this of what is held; that where none is
abbrev pub Of : (Session → Type 0) → Type 0 → Option Session → Type 0
Of Holds closed None = closed
Of Holds closed (Some s) = Holds s

-- a workbook with the functions that are told is held, or it is said why not and none is
abbrev pub Opens : ℕ → ℤ → Option (List (List ℕ × Rule)) → Option Session → Status → Type 0
Opens limit day told (Some s) status = (status ≡ Done) × IsOpened limit day told (Ok s)
Opens limit day told None status = IsOpened limit day told (Err status)

-- so it is with a session on the heap
abbrev pub IsOpenedOnHeap : {X : Type 0} → (X → Session) → ℕ → ℤ → Option (List (List ℕ × Rule)) → Result X Status → Type 0
IsOpenedOnHeap held limit day told (Ok x) = IsOpened limit day told (Ok (held x))
IsOpenedOnHeap held limit day told (Err status) = IsOpened limit day told (Err status)
