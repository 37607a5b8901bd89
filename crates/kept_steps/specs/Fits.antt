-- The session that a frame of a workbook and its steps stand for, and which steps are a frame's. Source: this project's own.
use Rattle.std.specs.Prelude.{◌≤◌, ℕ, pos, Bool, true, false, ◌≡◌, List, [], ◌∷◌, length, map, reverse, Option, Some, None, option_map}
use Rattle.shift_line.specs.Track.{last}
use Rattle.undo_book.specs.History.{History}
use Rattle.book_model.specs.Clipboard.{nothing}
use Rattle.book_model.specs.Workbook.{Batch, State}
use Rattle.kept_book.specs.Change.{Change}
use Rattle.kept_book.specs.Frame.{Frame}
use Rattle.kept_book.specs.Kept.{changes_of, frame_of}
use Rattle.kept_book.specs.Walk.{back_all}
use Rattle.kept_book.specs.declared.book.Book.{Book}
use Rattle.kept_steps.specs.Steps.{AllLedHere, AreAhead, ArePast, AreWholeHere, books_ahead, books_past, furthest, oldest}
use Rattle.kept_steps.specs.Timeline.{StandIn, Timeline, book_in, timeline_of}
use Rattle.kept_steps.specs.declared.entry.Entry.{Entry}

abbrev pub changes_in : Entry → List Change
changes_in e = changes_of e.parts.items

-- the steps of a list, its last one first
abbrev pub steps_of : List Entry → List (List Change)
steps_of es = map changes_in (reverse es)

-- what changed in the open batch so far
abbrev pub open_changes : Option Entry → List Change
open_changes None = []
open_changes (Some e) = changes_in e

-- the frame at the start of the open batch; where none is open, the frame itself
abbrev pub start_of : Timeline → Option Entry → Frame → Frame
start_of t batch f = back_all t.line (open_changes batch) f

-- something is in the list
abbrev pub has_any : List Change → Bool
has_any [] = false
has_any (c ∷ cs) = true

abbrev pub batch_of : Timeline → Frame → Entry → Batch
batch_of t f e = record { start = book_in t (back_all t.line (changes_in e) f); changed = has_any (changes_in e) }

-- a session of a kept workbook, with the steps that led to it and those that lead on from it; without custom functions, on
-- day 0, where nothing waits to be pasted
abbrev pub session_of : Timeline → Frame → History Entry → Option Entry → Bool → ℕ → State
session_of t f steps batch suspended next_sheet = record {
  book = book_in t f;
  undo = books_past t (start_of t batch f) (steps_of steps.done);
  redo = books_ahead t f (steps_of steps.undone);
  batch = option_map (batch_of t f) batch;
  suspended = suspended;
  next_sheet = next_sheet;
  limit = steps.limit;
  customs = [];
  today = pos 0;
  clip = nothing;
}

-- the steps are those of the frame: they led to it and lead on from it, over whole frames, on the line from the first position to
-- the last
pub record AreSteps (t : Timeline) (first end : ℕ) (f : Frame) (steps : History Entry) (batch : Option Entry) : Type 0 where
  pub stand : StandIn t f
  pub led : AllLedHere t (open_changes batch) f
  pub whole : AreWholeHere t (open_changes batch) f
  pub past : ArePast t (start_of t batch f) (steps_of steps.done)
  pub ahead : AreAhead t f (steps_of steps.undone)
  pub base : first ≤ (oldest t (start_of t batch f) (steps_of steps.done)).position
  pub top : (furthest t f (steps_of steps.undone)).position ≤ end
  -- where a change came in the open batch, nothing can be done again
  pub cleared : has_any (open_changes batch) ≡ true → length steps.undone ≡ 0

abbrev pub Fits : Book → History Entry → Option Entry → Type 0
Fits b steps batch = AreSteps (timeline_of b) b.lazy.line.first (last b.lazy.line) (frame_of b) steps batch
