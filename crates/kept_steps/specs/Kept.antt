-- What calls of a session leave of the formulas that it keeps. Source: this project's own.
use Rattle.std.specs.Prelude.{◌≡◌, ◌⊎◌, ℕ, ◌<◌, ◌≤◌, true, false, None, Some}
use Rattle.lazy_store.specs.Kept.{Kept}
use Rattle.lazy_store.specs.Store.{KeepsBehind, kept_in, position_in, stored_in}
use Rattle.lazy_store.specs.declared.lazy.Lazy.{Lazy}
use Rattle.shift_core.specs.declared.shift.Shift.{Shift}
use Rattle.shift_line.specs.Track.{pushed, with_spare}
use Rattle.kept_steps.specs.InUse.{IsInUse}
use Rattle.kept_steps.specs.Session.{base_of, line_settled, settles}
use Rattle.kept_steps.specs.declared.session.Session.{Session}

-- each formula from before that a workbook of the session has is kept as it was; another one is, or is dropped
pub record KeepsInUse (old : Session) (new : Lazy) : Type 0 where
  pub in_use : (id : ℕ) → id < old.book.next_id → IsInUse old id → kept_in new id ≡ kept_in old.book.lazy id
  pub others : (id : ℕ) → id < old.book.next_id → (kept_in new id ≡ kept_in old.book.lazy id) ⊎ (kept_in new id ≡ None)

-- each formula that a workbook of the session has, and that is kept as of the base or a later position up to the cursor,
-- stays so
abbrev pub KeepsFromBase : Session → Lazy → Type 0
KeepsFromBase s new =
    (id : ℕ) (h : Kept) → IsInUse s id → kept_in s.book.lazy id ≡ Some h → base_of s ≤ h.position → h.position ≤ s.book.lazy.line.cursor
    → stored_in new id ≡ stored_in s.book.lazy id

-- and each that is kept as of an earlier position comes to the base
abbrev pub ComeToBase : Session → Lazy → Type 0
ComeToBase s new = (id : ℕ) (h : Kept) → IsInUse s id → kept_in s.book.lazy id ≡ Some h → h.position < base_of s → position_in new id ≡ Some (base_of s)

-- what a structural change leaves of the formulas. Where it doesn't settle, each that is kept as of a position up to the
-- cursor is kept as it was; where it does, each that a workbook of the session has stays so from the base on
pub record KeepsAtShift (s : Session) (new : Lazy) : Type 0 where
  pub up_to_cursor : settles s ≡ false → KeepsBehind s.book.lazy.line.cursor s.book.lazy new
  pub from_base : KeepsFromBase s new

-- how an operation goes on the line: at the cursor, in place of those beyond it; those before the base leave, where it settles
-- first, and then the formulas from before the base are at it
pub record GoesOn (x : Shift) (s : Session) (new : Lazy) : Type 0 where
  pub line : new.line ≡ with_spare new.line.spare (pushed x (line_settled s))
  pub to_base : settles s ≡ true → ComeToBase s new

-- where a structural change wants memory, the line is as it was, or has settled
abbrev pub StaysOrSettles : Session → Lazy → Type 0
StaysOrSettles s new = (new.line ≡ with_spare new.line.spare s.book.lazy.line) ⊎ (new.line ≡ with_spare new.line.spare (line_settled s))
