-- The session that a kept workbook and its steps stand for, and how far back its steps reach. Source: this project's own.
use Rattle.std.specs.Prelude.{ℕ, ◌-◌, Bool, nat_le, if◌then◌else◌}
use Rattle.shift_line.specs.Track.{Track, forgotten}
use Rattle.book_model.specs.Workbook.{State}
use Rattle.kept_book.specs.Frame.{Frame}
use Rattle.kept_book.specs.Kept.{frame_of}
use Rattle.kept_steps.specs.Fits.{session_of, start_of, steps_of}
use Rattle.kept_steps.specs.Steps.{oldest}
use Rattle.kept_steps.specs.Timeline.{timeline_of}
use Rattle.kept_steps.specs.declared.session.Session.{Session}
use Rattle.kept_steps.specs.declared.settling.TheConstants.{LEAST_SETTLED}

-- the session's state as the plain machine has it, with whole workbooks in both lists
abbrev pub state_of : Session → State
state_of s = session_of (timeline_of s.book) (frame_of s.book) s.steps s.batch s.suspended s.next_sheet

-- the frame before all steps and the open batch; where there is none, the present one
abbrev pub oldest_frame : Session → Frame
oldest_frame s = oldest (timeline_of s.book) (start_of (timeline_of s.book) s.batch (frame_of s.book)) (steps_of s.steps.done)

-- the oldest position on which a step or the open batch rests; the cursor, where there is none
abbrev pub base_of : Session → ℕ
base_of s = (oldest_frame s).position

-- a structural change settles first: so many operations lie before the base
abbrev pub settles : Session → Bool
settles s = nat_le LEAST_SETTLED (base_of s - s.book.lazy.line.first)

-- the line without the operations before the base, where a structural change settles first
abbrev pub line_settled : Session → Track
line_settled s = if settles s then forgotten (base_of s) s.book.lazy.line else s.book.lazy.line
