use Rattle.std.proofs.Common.{◌∙◌, sym, ap, subst}
use Rattle.shift_line.specs.Track.{last}
use Rattle.book_model.specs.Session.{opened}
use Rattle.kept_book.specs.Kept.{changes_of, frame_of}
use Rattle.kept_steps.specs.Fits.{AreSteps, session_of}
use Rattle.kept_steps.specs.Timeline.{timeline_of}
use Rattle.kept_steps.specs.declared.entry.Entry.{Entry}
use Rattle.kept_steps.proofs.Sessions.{opens}
use Rattle.kept_steps.proofs.session.Session.begin.Goals as goal

pub invariant_of-self : goal.invariant_of-self
invariant_of-self c =
    let s = c.args.self.now in
    let t = timeline_of s.book in
    let entry : Entry = record { parts = c.new.result } in
    let fits = subst (λ b. AreSteps t s.book.lazy.line.first (last s.book.lazy.line) (frame_of s.book) s.steps b) c.requires s.fits in
    let after = opens t s.book.lazy.line.first (last s.book.lazy.line) (frame_of s.book) s.steps entry s.suspended s.next_sheet fits (ap changes_of c.new.ensures.items) in
    record { fits = after.0 }

pub returns-clause-state : goal.returns-clause-state
returns-clause-state c =
    let s = c.args.self.now in
    let t = timeline_of s.book in
    let entry : Entry = record { parts = c.new.result } in
    let fits = subst (λ b. AreSteps t s.book.lazy.line.first (last s.book.lazy.line) (frame_of s.book) s.steps b) c.requires s.fits in
    let after = opens t s.book.lazy.line.first (last s.book.lazy.line) (frame_of s.book) s.steps entry s.suspended s.next_sheet fits (ap changes_of c.new.ensures.items) in
    after.1 ∙ ap (λ b. opened (session_of t (frame_of s.book) s.steps b s.suspended s.next_sheet)) (sym c.requires)
