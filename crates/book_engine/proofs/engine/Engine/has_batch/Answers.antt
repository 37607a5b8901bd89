use Rattle.std.proofs.Common.{◌∙◌, ap, is_some}
use Rattle.book_model.specs.Workbook.{State}
use Rattle.kept_book.specs.Kept.{frame_of}
use Rattle.kept_steps.specs.Fits.{batch_of}
use Rattle.kept_steps.specs.Timeline.{timeline_of}
use Rattle.book_engine.specs.Engine.{StandsFor}
use Rattle.session_questions.proofs.NamedSlots.{is_some-map}
use Rattle.book_engine.proofs.engine.Engine.has_batch.Goals as goal

pub returns : goal.returns
unfolding StandsFor
returns g c = λ d same.
    let s = c.args.self.now.parts.session in
    c.is_some.ensures ∙ is_some-map (batch_of (timeline_of s.book) (frame_of s.book)) s.batch ∙ ap (λ (x : State). is_some x.batch) same
