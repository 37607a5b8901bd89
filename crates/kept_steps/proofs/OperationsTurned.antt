-- A step back or forth over one operation. Serves undo and redo.
use Rattle.std.proofs.Common.{◌≡◌, sym, subst, ℕ, List, [], ◌∷◌, Option, None}
use Rattle.shift_core.specs.Maps.{AreInside}
use Rattle.name_table.specs.Named.{words_of}
use Rattle.undo_book.specs.History.{History}
use Rattle.kept_book.specs.Change.{Change}
use Rattle.kept_book.specs.Frame.{Frame, book_at}
use Rattle.kept_book.specs.Kept.{at_of, frame_of, line_of}
use Rattle.kept_book.specs.Walk.{back_all, forth_all}
use Rattle.kept_book.specs.declared.book.Book.{Book}
use Rattle.kept_steps.specs.Fits.{Fits, start_of, steps_of}
use Rattle.kept_steps.specs.Steps.{ArePast}
use Rattle.kept_steps.specs.Timeline.{StandIn, Timeline, book_in, timeline_of}
use Rattle.kept_steps.specs.Turned.{ListsLost, Operates, first_step}
use Rattle.kept_steps.specs.declared.entry.Entry.{Entry}
use Rattle.kept_steps.proofs.CellsTurned.{first-lead, first-led}
use Rattle.kept_steps.proofs.GridCells.{grid-inside}
use Rattle.kept_steps.proofs.Operating.{lists-lost, operates}
use Rattle.kept_steps.proofs.Walks.{before_whole, leads_here, leads_on}

-- formulas stand in the frame before the first step
pub first-stand : (t : Timeline) (f : Frame) (es : List (List Change)) → StandIn t f → ArePast t f es → StandIn t (back_all t.line (first_step es) f)
first-stand t f [] stand past = stand
first-stand t f (e ∷ es) stand past = (before_whole t e f past.1).stand

module _ (old new : Book) (h : History Entry) (b : Option Entry) (fits : Fits old h b) (standings : (id k : ℕ) → at_of new id k ≡ at_of old id k) (words : words_of new.names ≡ words_of old.names) where
  abbrev back_step : List Change
  back_step = first_step (steps_of h.done)

  abbrev next_step : List Change
  next_step = first_step (steps_of h.undone)

  -- the workbook that is reached, by the line as it was
  pub reached : (f : Frame) → frame_of new ≡ f → book_in (timeline_of new) (frame_of new) ≡ book_in (timeline_of old) f
  reached f is i = book_at (λ id k. standings id k i) (words i) (is i)

  reached-inside : (f : Frame) → frame_of new ≡ f → AreInside f.cells
  reached-inside f is = subst (λ (x : Frame). AreInside x.cells) is (grid-inside new.grid)

  -- after a step back
  module _ (none : b ≡ None) (is : frame_of new ≡ back_all (line_of old) back_step (frame_of old)) where
    past : ArePast (timeline_of old) (frame_of old) (steps_of h.done)
    past = subst (λ o. ArePast (timeline_of old) (start_of (timeline_of old) o (frame_of old)) (steps_of h.done)) none fits.past

    pub operates-back : Operates (line_of old) back_step (book_in (timeline_of new) (frame_of new)) (book_in (timeline_of old) (frame_of old))
    operates-back =
        let t = timeline_of old in
        let f = back_all t.line back_step (frame_of old) in
        subst (λ x. Operates t.line back_step x (book_in t (frame_of old))) (sym (reached f is))
        (operates old back_step f (frame_of old) (leads_here t back_step (frame_of old) (first-led t (frame_of old) (steps_of h.done) past)) (first-stand t (frame_of old) (steps_of h.done) fits.stand past) (reached-inside f is))

    pub lost-back : ListsLost (line_of old) back_step (book_in (timeline_of new) (frame_of new))
    lost-back =
        let t = timeline_of old in
        let f = back_all t.line back_step (frame_of old) in
        subst (ListsLost t.line back_step) (sym (reached f is))
        (lists-lost old back_step f (frame_of old) (leads_here t back_step (frame_of old) (first-led t (frame_of old) (steps_of h.done) past)) (grid-inside old.grid))

  -- and after one forth
  module _ (is : frame_of new ≡ forth_all (line_of old) next_step (frame_of old)) where
    pub operates-forth : Operates (line_of old) next_step (book_in (timeline_of old) (frame_of old)) (book_in (timeline_of new) (frame_of new))
    operates-forth =
        let t = timeline_of old in
        let g = forth_all t.line next_step (frame_of old) in
        subst (Operates t.line next_step (book_in t (frame_of old))) (sym (reached g is))
        (operates old next_step (frame_of old) g (leads_on t next_step (frame_of old) (first-lead t (frame_of old) (steps_of h.undone) fits.ahead)) fits.stand (grid-inside old.grid))

    pub lost-forth : ListsLost (line_of old) next_step (book_in (timeline_of old) (frame_of old))
    lost-forth =
        let t = timeline_of old in
        let g = forth_all t.line next_step (frame_of old) in
        lists-lost old next_step (frame_of old) g (leads_on t next_step (frame_of old) (first-lead t (frame_of old) (steps_of h.undone) fits.ahead)) (reached-inside g is)
