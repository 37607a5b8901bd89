use Rattle.std.proofs.Common.{◌≡◌, drop}
use Rattle.kept_book.specs.Kept.{frame_of}
use Rattle.kept_steps.specs.Fits.{start_of}
use Rattle.kept_steps.specs.Timeline.{timeline_of}
use Rattle.kept_steps.specs.internal.Listed.{rests_on}
use Rattle.kept_steps.proofs.session.Session.base.Given as goal

abbrev pub invariant-loop-index : goal.invariant-loop-index
invariant-loop-index l =
    rests_on (drop l.index l.self.steps.done) (start_of (timeline_of l.self.book) l.self.batch (frame_of l.self.book)).position
    ≡ rests_on l.self.steps.done (start_of (timeline_of l.self.book) l.self.batch (frame_of l.self.book)).position
