use Rattle.std.proofs.Common.{◌∙◌, sym, ap, length}
use Rattle.book_model.specs.Workbook.{State}
use Rattle.kept_book.specs.Kept.{frame_of}
use Rattle.kept_steps.specs.Fits.{start_of}
use Rattle.kept_steps.specs.Timeline.{timeline_of}
use Rattle.book_engine.specs.Engine.{StandsFor}
use Rattle.session_questions.proofs.Counted.{steps_ahead, steps_past}
use Rattle.book_engine.proofs.engine.Engine.entries.Goals as goal

pub returns-clause-done : goal.returns-clause-done
unfolding StandsFor
returns-clause-done g c = λ d same.
    let s = c.args.self.now.parts.session in
    sym (steps_past (timeline_of s.book) (start_of (timeline_of s.book) s.batch (frame_of s.book)) s.steps.done) ∙ ap (λ (x : State). length x.undo) same

pub returns-clause-undone : goal.returns-clause-undone
unfolding StandsFor
returns-clause-undone g c = λ d same.
    let s = c.args.self.now.parts.session in
    sym (steps_ahead (timeline_of s.book) (frame_of s.book) s.steps.undone) ∙ ap (λ (x : State). length x.redo) same
