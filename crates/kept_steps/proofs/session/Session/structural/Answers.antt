use Rattle.std.proofs.Common.{◌∙◌, ap}
use Rattle.book_model.specs.Changes.{shifted}
use Rattle.book_model.specs.Session.{changed}
use Rattle.lazy_store.specs.Store.{kept_in}
use Rattle.shift_line.specs.Track.{last}
use Rattle.kept_book.specs.Kept.{change_of, frame_of}
use Rattle.kept_steps.specs.Session.{state_of}
use Rattle.kept_steps.specs.Timeline.{timeline_of}
use Rattle.kept_steps.proofs.Outcomes.{itself, made, on_err, on_pushed, unchanged}
use Rattle.kept_steps.proofs.Settled.{base-cursor, shift-goes, shift-keeps}
use Rattle.kept_steps.proofs.session.Session.structural.Goals as goal

pub returns-in_err-room-clause-err : goal.returns-in_err-room-clause-err
returns-in_err-room-clause-err c = on_err c.from_residual-in_err-room.result ((unchanged c.settle_where_due.new.self.book c.settle_where_due.new.self.book c.settle_where_due.new.self.steps c.settle_where_due.new.self.batch c.room.new.batch c.settle_where_due.new.self.suspended c.settle_where_due.new.self.next_sheet c.settle_where_due.new.self.fits (itself c.settle_where_due.new.self.book) c.room.ensures.batch).1 ∙ c.settle_where_due.ensures.state)

pub invariant_of-self-in-Break-branch-3 : goal.invariant_of-self-in-Break-branch-3
invariant_of-self-in-Break-branch-3 c = record { fits = (unchanged c.settle_where_due.new.self.book c.shift.new.self c.settle_where_due.new.self.steps c.settle_where_due.new.self.batch c.room.new.batch c.settle_where_due.new.self.suspended c.settle_where_due.new.self.next_sheet c.settle_where_due.new.self.fits c.in_err-part.ensures.err c.room.ensures.batch).0 }

pub returns-in_err-part-clause-err : goal.returns-in_err-part-clause-err
returns-in_err-part-clause-err c = on_err c.from_residual-in_err-part.result ((unchanged c.settle_where_due.new.self.book c.shift.new.self c.settle_where_due.new.self.steps c.settle_where_due.new.self.batch c.room.new.batch c.settle_where_due.new.self.suspended c.settle_where_due.new.self.next_sheet c.settle_where_due.new.self.fits c.in_err-part.ensures.err c.room.ensures.batch).1 ∙ c.settle_where_due.ensures.state)

pub invariant_of-self-2 : goal.invariant_of-self-2
invariant_of-self-2 c = record { fits = (made c.settle_where_due.new.self.book c.shift.new.self c.settle_where_due.new.self.steps c.note.new.steps c.settle_where_due.new.self.batch c.room.new.batch c.note.new.batch c.settle_where_due.new.self.suspended c.settle_where_due.new.self.next_sheet (change_of c.in_ok-part.part) c.settle_where_due.new.self.fits c.room.ensures.batch c.in_ok-part.ensures.makes c.note.ensures (ap (λ t. t.first) c.in_ok-part.ensures.line) (on_pushed c.settle_where_due.new.self.book c.settle_where_due.new.self.steps c.settle_where_due.new.self.batch c.settle_where_due.new.self.fits c.shift.new.self c.args.s.now c.in_ok-part.ensures.line)).0 }

pub returns-clause-ok : goal.returns-clause-ok
returns-clause-ok c = (let after = made c.settle_where_due.new.self.book c.shift.new.self c.settle_where_due.new.self.steps c.note.new.steps c.settle_where_due.new.self.batch c.room.new.batch c.note.new.batch c.settle_where_due.new.self.suspended c.settle_where_due.new.self.next_sheet (change_of c.in_ok-part.part) c.settle_where_due.new.self.fits c.room.ensures.batch c.in_ok-part.ensures.makes c.note.ensures (ap (λ t. t.first) c.in_ok-part.ensures.line) (on_pushed c.settle_where_due.new.self.book c.settle_where_due.new.self.steps c.settle_where_due.new.self.batch c.settle_where_due.new.self.fits c.shift.new.self c.args.s.now c.in_ok-part.ensures.line) in after.1) ∙ ap (λ b. changed b (state_of c.settle_where_due.new.self)) c.in_ok-part.ensures.ok ∙ ap (λ st. changed (shifted c.args.s.now st.book) st) c.settle_where_due.ensures.state

pub returns-in_err-settle_where_due-clause-kept : goal.returns-in_err-settle_where_due-clause-kept
returns-in_err-settle_where_due-clause-kept c = record { up_to_cursor = λ stays id h is upto. ap (λ l. kept_in l id) (c.settle_where_due.ensures.same stays) ∙ is; from_base = c.settle_where_due.ensures.kept }

pub returns-in_err-room-clause-kept : goal.returns-in_err-room-clause-kept
returns-in_err-room-clause-kept c = record { up_to_cursor = λ stays id h is upto. ap (λ l. kept_in l id) (c.settle_where_due.ensures.same stays) ∙ is; from_base = c.settle_where_due.ensures.kept }

pub returns-in_err-part-clause-kept : goal.returns-in_err-part-clause-kept
returns-in_err-part-clause-kept c = shift-keeps c.args.self.now c.settle_where_due.new.self c.shift.new.self.lazy c.shift.ensures.kept c.in_ok-settle_where_due.ensures.line c.settle_where_due.ensures.same c.settle_where_due.ensures.kept

pub returns-clause-kept : goal.returns-clause-kept
returns-clause-kept c = shift-keeps c.args.self.now c.settle_where_due.new.self c.shift.new.self.lazy c.shift.ensures.kept c.in_ok-settle_where_due.ensures.line c.settle_where_due.ensures.same c.settle_where_due.ensures.kept

pub returns-clause-line : goal.returns-clause-line
returns-clause-line c =
    let s = c.args.self.now in
    shift-goes s c.settle_where_due.new.self c.shift.new.self.lazy c.shift.ensures.kept c.in_ok-settle_where_due.ensures.line c.args.s.now c.in_ok-part.ensures.line
    (base-cursor (timeline_of s.book) s.book.lazy.line.first (last s.book.lazy.line) (frame_of s.book) s.steps s.batch s.fits) c.in_ok-settle_where_due.ensures.placed
