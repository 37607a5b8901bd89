use Rattle.std.proofs.Common.{◌∙◌, sym, ap, subst}
use Rattle.undo_book.specs.History.{without_entries}
use Rattle.shift_line.specs.Track.{last}
use Rattle.kept_book.specs.Kept.{frame_of}
use Rattle.kept_steps.specs.Fits.{AreSteps, session_of}
use Rattle.kept_steps.specs.Timeline.{timeline_of}
use Rattle.kept_steps.proofs.Sessions.{forgotten}
use Rattle.kept_steps.proofs.session.Session.forget_steps.Goals as goal

pub invariant_of-self : goal.invariant_of-self
invariant_of-self c =
    let s = c.args.self.now in
    let t = timeline_of s.book in
    let after = forgotten t s.book.lazy.line.first (last s.book.lazy.line) (frame_of s.book) s.steps s.batch s.suspended s.next_sheet s.fits in
    record { fits = subst (λ h. AreSteps t s.book.lazy.line.first (last s.book.lazy.line) (frame_of s.book) h s.batch) (sym c.clear.ensures) after.0 }

pub returns-clause-state : goal.returns-clause-state
returns-clause-state c =
    let s = c.args.self.now in
    let t = timeline_of s.book in
    let after = forgotten t s.book.lazy.line.first (last s.book.lazy.line) (frame_of s.book) s.steps s.batch s.suspended s.next_sheet s.fits in
    ap (λ h. session_of t (frame_of s.book) h s.batch s.suspended s.next_sheet) c.clear.ensures ∙ after.1
