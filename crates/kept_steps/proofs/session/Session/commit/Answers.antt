use Rattle.std.proofs.Common.{◌∙◌, sym, ap, subst}
use Rattle.shift_line.specs.Track.{last}
use Rattle.kept_book.specs.Kept.{frame_of}
use Rattle.kept_steps.specs.Fits.{AreSteps, session_of}
use Rattle.kept_steps.specs.Timeline.{timeline_of}
use Rattle.kept_steps.specs.internal.Noted.{Closes}
use Rattle.kept_steps.proofs.Sessions.{closes}
use Rattle.kept_steps.proofs.session.Session.commit.Goals as goal

pub invariant_of-self : goal.invariant_of-self
invariant_of-self c =
    let s = c.args.self.now in
    let given = subst (λ b. Closes b s.steps c.close.new.steps) c.take.ensures.value c.close.ensures in
    let t = timeline_of s.book in
    let after = closes t s.book.lazy.line.first (last s.book.lazy.line) (frame_of s.book) s.steps c.close.new.steps s.suspended s.next_sheet s.batch s.fits given in
    record { fits = subst (λ b. AreSteps t s.book.lazy.line.first (last s.book.lazy.line) (frame_of s.book) c.close.new.steps b) (sym c.take.ensures.after) after.0 }

pub returns-clause-state : goal.returns-clause-state
returns-clause-state c =
    let s = c.args.self.now in
    let given = subst (λ b. Closes b s.steps c.close.new.steps) c.take.ensures.value c.close.ensures in
    let t = timeline_of s.book in
    let after = closes t s.book.lazy.line.first (last s.book.lazy.line) (frame_of s.book) s.steps c.close.new.steps s.suspended s.next_sheet s.batch s.fits given in
    ap (λ b. session_of t (frame_of s.book) c.close.new.steps b s.suspended s.next_sheet) c.take.ensures.after ∙ after.1
