-- What holds of every history. Source: this project's own.
use Rattle.std.specs.Prelude.{◌≡◌, ◌<◌, [], ◌∷◌, ◌++◌, length, Some}
use Rattle.undo_book.specs.History.{History, IsWithinLimit, all_but_last, last_one, pushed, stepped_back, stepped_forward}

-- no more entries are left than the limit allows
abbrev pub PushKeepsLimit : (E : Type 0) → Type 0
PushKeepsLimit E = (h : History E) (e : E) → IsWithinLimit (pushed e h)

-- the newest is the entry that was added, unless the limit allows none
abbrev pub PushedIsNewest : (E : Type 0) → Type 0
PushedIsNewest E = (h : History E) (e : E) → 0 < h.limit → last_one (pushed e h).done ≡ Some e

-- of those that were done only the oldest may leave, and only where there are as many as the limit allows
abbrev pub PushLosesOldest : (E : Type 0) → Type 0
PushLosesOldest E = (h : History E) (e : E) → all_but_last h.limit (h.done ++ e ∷ []) ++ (pushed e h).done ≡ h.done ++ e ∷ []

-- where the limit allows one more, a step back from an added entry leaves what was done before it
abbrev pub StepBackUndoesPush : (E : Type 0) → Type 0
StepBackUndoesPush E = (h : History E) (e : E) → length h.done < h.limit → (stepped_back (pushed e h)).done ≡ h.done

-- a step forward undoes a step back
abbrev pub ForwardUndoesBack : (E : Type 0) → Type 0
ForwardUndoesBack E = (h : History E) → 0 < length h.done → stepped_forward (stepped_back h) ≡ h

-- a step back undoes a step forward
abbrev pub BackUndoesForward : (E : Type 0) → Type 0
BackUndoesForward E = (h : History E) → 0 < length h.undone → stepped_back (stepped_forward h) ≡ h
