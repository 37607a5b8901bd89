-- No batch is open where a step may be taken back or done again. Serves undo and redo.
use Rattle.std.proofs.Common.{◌≡◌, ◌∙◌, cond, refl, Bool, true, false, Option, Some, None, is_some}
use Rattle.book_model.specs.Operation as op
use Rattle.book_model.specs.Refusals.{cause}
use Rattle.book_model.specs.declared.refusal.Refusal.{Refusal}
use Rattle.book_model.specs.declared.refusal.Refusal.TheVariants.{BatchOpen}
use Rattle.kept_book.specs.Kept.{frame_of}
use Rattle.kept_steps.specs.Fits.{batch_of}
use Rattle.kept_steps.specs.Session.{state_of}
use Rattle.kept_steps.specs.Timeline.{timeline_of}
use Rattle.kept_steps.specs.declared.session.Session.{Session}
use Rattle.session_operations.proofs.Counted.{none_open}
use Rattle.session_operations.proofs.NamedSlots.{is_some-map}

-- a test whose refusal isn't given fails
not_refused : (t : Bool) (r : Refusal) (rest : Option Refusal) → cond t (Some r) rest ≡ None → t ≡ false
not_refused false r rest e = refl
not_refused true r rest e = cc

shut : (s : Session) → is_some (state_of s).batch ≡ false → s.batch ≡ None
shut s e = none_open s.batch (is_some-map (batch_of (timeline_of s.book) (frame_of s.book)) s.batch ∙ e)

pub closed_at_undo : (s : Session) → cause op.undo (state_of s) ≡ None → s.batch ≡ None
closed_at_undo s none = shut s (not_refused (is_some (state_of s).batch) BatchOpen _ none)

pub closed_at_redo : (s : Session) → cause op.redo (state_of s) ≡ None → s.batch ≡ None
closed_at_redo s none = shut s (not_refused (is_some (state_of s).batch) BatchOpen _ none)
