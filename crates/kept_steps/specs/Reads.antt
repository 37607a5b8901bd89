-- What reads leave of a session. Source: this project's own.
use Rattle.std.specs.Prelude.{◌≡◌, ℕ}
use Rattle.lazy_store.specs.Store.{kept_in}
use Rattle.kept_book.specs.Kept.{at_of, frame_of}
use Rattle.kept_steps.specs.InUse.{HasFormula}
use Rattle.kept_steps.specs.Session.{state_of}
use Rattle.kept_steps.specs.declared.session.Session.{Session}

-- the session is as it was, and so is all that it keeps but the formulas of its present cells and names, which may have been
-- taken along the line: each has the standings that it had
pub record Reads (old new : Session) : Type 0 where
  pub state : state_of new ≡ state_of old
  pub line : new.book.lazy.line ≡ old.book.lazy.line
  pub standings : (id k : ℕ) → at_of new.book id k ≡ at_of old.book id k
  pub kept : (id : ℕ) → ¬ HasFormula (frame_of old.book) id → kept_in new.book.lazy id ≡ kept_in old.book.lazy id
  pub grid : new.book.grid ≡ old.book.grid
  pub names : new.book.names ≡ old.book.names
  pub next_id : new.book.next_id ≡ old.book.next_id
  pub steps : new.steps ≡ old.steps
  pub batch : new.batch ≡ old.batch
  pub suspended : new.suspended ≡ old.suspended
  pub next_sheet : new.next_sheet ≡ old.next_sheet
  pub sweep_at : new.sweep_at ≡ old.sweep_at
